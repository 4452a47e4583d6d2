use Rattle.std.proofs.Common.{◌≡◌, take}
use Rattle.tablet_view.proofs.log.shared.Given as goal

abbrev pub invariant-loop-run : goal.invariant-loop-run
invariant-loop-run l = l.list.items ≡ take l.run-index l.runs
