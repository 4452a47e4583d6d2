use Rattle.std.proofs.Common.{◌≡◌, map, take}
use Rattle.tablet_core.specs.Status.{count_of}
use Rattle.tablet_core.proofs.core_state.telling.file_counts.Given as goal

abbrev pub invariant-loop-i : goal.invariant-loop-i
invariant-loop-i l = l.counts ≡ map count_of (take l.i l.view.files)
