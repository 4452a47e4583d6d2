-- Steps, answers and refusals of the code as those of the model.
use Rattle.std.specs.Prelude.{Option, Some, None}
use Rattle.tablet_model.specs.Steps as model
use Rattle.cell_key.specs.Mutations.{row_change_of}
use Rattle.ingest.specs.Refusals.{refusal_of}
use Rattle.tablet_steps.specs.declared.answer.Answer.{Answer}
use Rattle.tablet_steps.specs.declared.answer.Answer.TheVariants as answer
use Rattle.tablet_steps.specs.declared.event.Event.{Event}
use Rattle.tablet_steps.specs.declared.event.Event.TheVariants as event
use Rattle.tablet_steps.specs.declared.refusal.StepRefusal.{StepRefusal}
use Rattle.tablet_steps.specs.declared.refusal.StepRefusal.TheVariants as refusal

-- the event
abbrev pub event_of : Event → model.Event
event_of (event.Apply mutation) = model.apply (row_change_of mutation)
event_of event.Freeze = model.freeze
event_of event.Flush = model.flush
event_of (event.Compact job files) = model.compact job files
event_of (event.CompactAll job) = model.compact_all job
event_of (event.Finish job) = model.finish job

-- why a step is refused, as the model answers it
abbrev pub model_refusal_of : StepRefusal → model.StepAnswer
model_refusal_of (refusal.Mutation refused) = model.refused (refusal_of refused)
model_refusal_of refusal.NothingInMemory = model.nothing_in_memory
model_refusal_of refusal.FrozenThere = model.frozen_there
model_refusal_of refusal.NothingFrozen = model.nothing_frozen
model_refusal_of refusal.TooManyFiles = model.too_many_files
model_refusal_of (refusal.JobExists job) = model.job_exists job
model_refusal_of refusal.NoFiles = model.no_files
model_refusal_of (refusal.NoSuchFile file) = model.no_such_file file
model_refusal_of (refusal.InJob file job) = model.in_job file job
model_refusal_of (refusal.NoSuchJob job) = model.no_such_job job

-- the answer, none where there was no memory
abbrev pub model_answer_of : Answer → Option model.StepAnswer
model_answer_of (answer.Applied number) = Some (model.applied number)
model_answer_of (answer.Frozen count) = Some (model.froze count)
model_answer_of (answer.Flushed file count) = Some (model.flushed file count)
model_answer_of (answer.Started job full) = Some (model.started job full)
model_answer_of (answer.Finished job file count) = Some (model.finished job file count)
model_answer_of (answer.Refused refused) = Some (model_refusal_of refused)
model_answer_of answer.NoMemory = None
