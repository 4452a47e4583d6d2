use Rattle.std.proofs.Common.{◌≡◌, drop}
use Rattle.compactor.specs.Plans.{even_set}
use Rattle.compactor.proofs.planner.even_set.Given as goal

abbrev pub invariant-loop-i : goal.invariant-loop-i
invariant-loop-i l = even_set l.files ≡ even_set (drop l.i l.files)
