use Rattle.std.proofs.Common.{◌≡◌, drop}
use Rattle.tablet_model.specs.Steps.{ids_of}
use Rattle.tablet_model.specs.Store.{has_id}
use Rattle.tablet_core.proofs.core_state.starting.has_file.Given as goal

abbrev pub invariant-loop-i : goal.invariant-loop-i
invariant-loop-i l = has_id (ids_of (drop l.i l.view.files)) l.file ≡ has_id (ids_of l.view.files) l.file
