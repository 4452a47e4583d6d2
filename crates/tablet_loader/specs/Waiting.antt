-- The jobs that wait in a loader. All of this is this project's own.
use Rattle.std.specs.Prelude.{◌≡◌, ℕ, Option, Some, None, MatchOption, option_map}
use Rattle.tablet_model.specs.Steps.{find_job, made_by}
use Rattle.tablet_model.specs.Store.{RunningJob}
use Rattle.iter_config.specs.RulesOf.{rules_of}
use Rattle.compactor.specs.Compacted.{Compaction, entries_made}
use Rattle.tablet_core.specs.Jobs.{flush_of, major_of}
use Rattle.tablet_core.specs.State.{CoreState, state_of}
use Rattle.tablet_loader.specs.declared.loader.Loader.{Loader}

-- the flush of a core's frozen part
abbrev pub flush_in : CoreState → Option Compaction
flush_in k = option_map (flush_of k.view) k.view.frozen

-- the compaction of its job of a number
abbrev pub major_in : CoreState → ℕ → Option Compaction
major_in k j = option_map (major_of k.view) (find_job j k.jobs)

-- what was made is what the job of a number has to make, or nothing, where there is no such job
abbrev pub IsMadeBy : CoreState → ℕ → Option Compaction → Type 0
IsMadeBy k j made = MatchOption made (find_job j k.jobs ≡ None)
    (λ m. (t : RunningJob) × (find_job j k.jobs ≡ Some t) × (entries_made m ≡ made_by (rules_of k.view.config) (state_of k) t))

-- the flush that waits in a loader
abbrev pub waiting_flush : Loader → Option Compaction
waiting_flush l = flush_in l.core

-- and the last job that it started, where that runs
abbrev pub waiting_major : Loader → Option Compaction
waiting_major l = major_in l.core l.job
