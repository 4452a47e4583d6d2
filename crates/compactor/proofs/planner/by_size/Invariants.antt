use Rattle.std.proofs.Common.{◌≡◌, take}
use Rattle.compactor.proofs.planner.by_size.Given as goal

abbrev pub invariant-loop-file : goal.invariant-loop-file
invariant-loop-file l = l.order.items ≡ take l.file-index l.files
