-- Why a mutation does not come in, in code. All of this is this project's own.
use Rattle.std.specs.Prelude.{Option, Some, None}
use Rattle.tablet_model.specs.Ingest.{Refusal}
use Rattle.ingest.specs.Refusals.{refusal_of}
use Rattle.tablet_view.specs.declared.apply_error.ApplyError.{ApplyError}
use Rattle.tablet_view.specs.declared.apply_error.ApplyError.TheVariants as error

-- the refusal, none where there was no memory
abbrev pub refusal_in : ApplyError → Option Refusal
refusal_in (error.Refused refused) = Some (refusal_of refused)
refusal_in error.NoMemory = None
