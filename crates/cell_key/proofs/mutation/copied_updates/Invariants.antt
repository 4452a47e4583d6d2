use Rattle.std.proofs.Common.{◌≡◌, take}
use Rattle.cell_key.proofs.mutation.copied_updates.Given as goal

abbrev pub invariant-loop-update : goal.invariant-loop-update
invariant-loop-update l = l.list ≡ take l.update-index l.updates
