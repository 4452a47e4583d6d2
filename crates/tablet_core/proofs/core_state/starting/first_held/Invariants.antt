use Rattle.std.proofs.Common.{◌≡◌, drop}
use Rattle.tablet_model.specs.Steps.{first_taken, ids_of}
use Rattle.tablet_core.proofs.core_state.starting.first_held.Given as goal

abbrev pub invariant-loop-i : goal.invariant-loop-i
invariant-loop-i l = first_taken l.jobs (ids_of (drop l.i l.view.files)) ≡ first_taken l.jobs (ids_of l.view.files)
