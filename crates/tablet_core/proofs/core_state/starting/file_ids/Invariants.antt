use Rattle.std.proofs.Common.{◌≡◌, take}
use Rattle.tablet_model.specs.Steps.{ids_of}
use Rattle.tablet_core.proofs.core_state.starting.file_ids.Given as goal

abbrev pub invariant-loop-i : goal.invariant-loop-i
invariant-loop-i l = l.ids ≡ ids_of (take l.i l.view.files)
