use Rattle.std.proofs.Common.{◌≡◌, drop}
use Rattle.tablet_model.specs.Steps.{first_missing, ids_of}
use Rattle.tablet_core.proofs.core_state.starting.first_missing.Given as goal

abbrev pub invariant-loop-file : goal.invariant-loop-file
invariant-loop-file l = first_missing (ids_of l.view.files) (drop l.file-index l.file-items) ≡ first_missing (ids_of l.view.files) l.files
