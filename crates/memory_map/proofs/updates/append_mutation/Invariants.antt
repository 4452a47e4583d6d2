use Rattle.std.proofs.Common.{◌≡◌, ◌++◌, map, take}
use Rattle.tablet_model.specs.History.{entry_of}
use Rattle.cell_key.specs.Mutations.{change_of}
use Rattle.memory_map.proofs.updates.append_mutation.Given as goal

abbrev pub invariant-loop-update : goal.invariant-loop-update
invariant-loop-update l =
    l.entries ≡ l.fn.entries ++ map (entry_of l.mutation.row l.time) (map change_of (take l.update-index l.update-items))
