-- The laws of cores, as statements: this project's own. What a job makes may be put in place after other steps.
use Rattle.std.specs.Prelude.{◌≡◌, ℕ, List, Some, true, is_some}
use Rattle.tablet_model.specs.Cell.{Cell}
use Rattle.tablet_model.specs.Compactions.{minor_compaction}
use Rattle.tablet_model.specs.Store.{RunningJob}
use Rattle.tablet_model.specs.Steps.{Event, find_job, made_by}
use Rattle.iter_config.specs.RulesOf.{rules_of}
use Rattle.compactor.specs.Compacted.{entries_made}
use Rattle.tablet_view.specs.Snapshot.{Snapshot}
use Rattle.tablet_core.specs.Jobs.{flush_of, major_of}
use Rattle.tablet_core.specs.State.{CoreState, IsStandingCore, IsStep, state_of}

-- a step that leaves a job running leaves what it makes
abbrev pub JobsStay : Type 0
JobsStay = (e : Event) (k l : CoreState) (j : ℕ) (t : RunningJob) → IsStandingCore k → IsStep e k l
    → find_job j k.jobs ≡ Some t → find_job j l.jobs ≡ Some t
    → made_by (rules_of l.view.config) (state_of l) t ≡ made_by (rules_of k.view.config) (state_of k) t

-- a step that leaves a frozen part leaves its entries
abbrev pub FrozenPartsStay : Type 0
FrozenPartsStay = (e : Event) (k l : CoreState) (frozen : List Cell) → IsStep e k l
    → k.view.frozen ≡ Some frozen → is_some l.view.frozen ≡ true
    → l.view.frozen ≡ Some frozen

-- what the minor compaction of a frozen part makes is what its file has to be
abbrev pub FlushesFit : Type 0
FlushesFit = (v : Snapshot) (frozen : List Cell) → entries_made (flush_of v frozen) ≡ minor_compaction (rules_of v.config).minor frozen

-- what the compaction of a running job makes is what the job's file has to be
abbrev pub MajorsFit : Type 0
MajorsFit = (k : CoreState) (t : RunningJob) → entries_made (major_of k.view t) ≡ made_by (rules_of k.view.config) (state_of k) t
