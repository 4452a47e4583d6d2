use Rattle.std.proofs.Common.{◌≡◌, ◌∙◌, None, ap, arith, length, subst, sym}
use Rattle.std.proofs.lemmas.Grind.{common_steps}
use Rattle.std.proofs.lemmas.List.{length-map}
use Rattle.tablet_model.specs.History.{entry_of}
use Rattle.tablet_model.specs.Ingest.{ingest, out_of_bounds}
use Rattle.tablet_model.proofs.Ingests.{inside, none_first, room_left}
use Rattle.cell_key.specs.Mutations.{row_change_of}
use Rattle.cell_key.specs.declared.mutation.Mutation.{Mutation}
use Rattle.iter_config.specs.RulesOf.{rules_of}
use Rattle.tablet_view.specs.LogParts.{mutation_in}
use Rattle.tablet_view.specs.Snapshot.{IsStanding, Snapshot, refused_by}
use Rattle.tablet_view.proofs.Logs.{said_by_entries}
use Rattle.tablet_view.proofs.Standing.{standing_applied}
use Rattle.tablet_view.proofs.view.View.with_mutation.Goals as goal

-- a mutation that comes in is within bounds
bounds_of : (v : Snapshot) (m : Mutation) → refused_by v (row_change_of m) ≡ None → out_of_bounds (row_change_of m) ≡ None
unfolding ingest
bounds_of v m free = none_first (out_of_bounds (row_change_of m)) _ free

pub mutation_entries-requires : goal.mutation_entries-requires
mutation_entries-requires c = bounds_of c.args.self.now c.args.mutation.now c.requires.free

pub add-requires-clause-some : goal.add-requires-clause-some
add-requires-clause-some c =
    let some = (inside (row_change_of c.args.mutation.now) (bounds_of c.args.self.now c.args.mutation.now c.requires.free)).some_changes in
    let same = ap length c.in_ok-entries.ensures ∙ length-map (row_change_of c.args.mutation.now).changes (entry_of c.args.mutation.now.row _) in
    omega (arith, some, same)

pub add-requires-clause-few : goal.add-requires-clause-few
add-requires-clause-few c =
    let few = (inside (row_change_of c.args.mutation.now) (bounds_of c.args.self.now c.args.mutation.now c.requires.free)).few_changes in
    let same = ap length c.in_ok-entries.ensures ∙ length-map (row_change_of c.args.mutation.now).changes (entry_of c.args.mutation.now.row _) in
    omega (arith, few, same)

pub returns : goal.returns
returns c =
    let config = c.args.self.now.config in
    let m = row_change_of c.args.mutation.now in
    let room = room_left (rules_of config) (length c.args.self.now.log) m c.requires.free in
    let some = (inside m (bounds_of c.args.self.now c.args.mutation.now c.requires.free)).some_changes in
    let said : mutation_in config c.in_ok-entries.entries ≡ m = ap (mutation_in config) c.in_ok-entries.ensures ∙ said_by_entries config (length c.args.self.now.log) _ m some c.requires.free in
    grind (arith, common_steps, room, said)

pub invariant_of-result : goal.invariant_of-result
invariant_of-result c = subst IsStanding (sym (returns c)) (standing_applied c.args.self.now (row_change_of c.args.mutation.now) c.requires.free (subst IsStanding c.self.view_is c.self.invariant))

pub with-requires : goal.with-requires
with-requires c =
    let room = room_left (rules_of c.args.self.now.config) (length c.args.self.now.log) (row_change_of c.args.mutation.now) c.requires.free in
    grind (arith, common_steps, room)

pub overflow_cast-time : goal.overflow_cast-time
overflow_cast-time c =
    let room = room_left (rules_of c.args.self.now.config) (length c.args.self.now.log) (row_change_of c.args.mutation.now) c.requires.free in
    grind (arith, common_steps, room)

pub overflow_add-time : goal.overflow_add-time
overflow_add-time c =
    let room = room_left (rules_of c.args.self.now.config) (length c.args.self.now.log) (row_change_of c.args.mutation.now) c.requires.free in
    grind (arith, common_steps, room)
