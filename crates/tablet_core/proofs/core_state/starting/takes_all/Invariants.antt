use Rattle.std.proofs.Common.{◌≡◌, drop}
use Rattle.tablet_model.specs.Steps.{takes_all}
use Rattle.tablet_core.proofs.core_state.starting.takes_all.Given as goal

abbrev pub invariant-loop-i : goal.invariant-loop-i
invariant-loop-i l = takes_all l.files (drop l.i l.view.files) ≡ takes_all l.files l.view.files
