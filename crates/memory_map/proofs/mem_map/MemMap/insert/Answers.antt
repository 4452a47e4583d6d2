use Rattle.std.proofs.Common.{length, ◌∙◌, ap, arith}
use Rattle.std.proofs.lemmas.List.{length-map}
use Rattle.tablet_model.proofs.Ingests.{inside}
use Rattle.tablet_model.specs.History.{entry_of}
use Rattle.cell_key.specs.Mutations.{row_change_of}
use Rattle.memory_map.proofs.mem_map.MemMap.insert.Goals as goal

pub add-requires-clause-some : goal.add-requires-clause-some
add-requires-clause-some c =
    let some = (inside (row_change_of c.args.mutation.now) c.requires).some_changes in
    let same = ap length c.in_ok-entries.ensures ∙ length-map (row_change_of c.args.mutation.now).changes (entry_of c.args.mutation.now.row _) in
    omega (arith, some, same)

pub add-requires-clause-few : goal.add-requires-clause-few
add-requires-clause-few c =
    let few = (inside (row_change_of c.args.mutation.now) c.requires).few_changes in
    let same = ap length c.in_ok-entries.ensures ∙ length-map (row_change_of c.args.mutation.now).changes (entry_of c.args.mutation.now.row _) in
    omega (arith, few, same)
