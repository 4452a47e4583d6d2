-- Running jobs in the model's words. All of this is this project's own.
use Rattle.std.specs.Prelude.{Bool, nat_lt}
use Rattle.tablet_model.specs.Store.{RunningJob}
use Rattle.compactor.specs.declared.job_state.JobState.{JobState}

-- the running job of the model
abbrev pub job_of : JobState → RunningJob
job_of j = record { job = j.job; full = j.full; ids = j.files }

-- the first has the greater number
abbrev pub is_behind : RunningJob → RunningJob → Bool
is_behind t u = nat_lt u.job t.job
