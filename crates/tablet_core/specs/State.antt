-- The state of a core, and its steps. All of this is this project's own.
use Rattle.std.specs.Prelude.{◌≡◌, ℕ, ◌+◌, ◌≤◌, true, false, List, [], length, Option, Some, None, is_some}
use Rattle.std.specs.List.{AllByRecursion}
use Rattle.tablet_model.specs.Limits.{max_files}
use Rattle.tablet_model.specs.Store.{Store, RunningJob}
use Rattle.tablet_model.specs.Steps.{Event, StepAnswer, refuse, answer_to_step, is_empty, store_after, log_after}
use Rattle.tablet_model.specs.Stands.{StandsInJobs}
use Rattle.iter_config.specs.RulesOf.{rules_of}
use Rattle.iter_config.specs.Settings.{Settings}
use Rattle.tablet_view.specs.Snapshot.{Snapshot, empty_snapshot, store_of}
use Rattle.tablet_view.specs.Extending.{Extends}
use Rattle.tablet_steps.specs.ModelSteps.{model_refusal_of}
use Rattle.tablet_steps.specs.declared.refusal.StepRefusal.{StepRefusal}

-- a snapshot of a tablet, the number of its next file, and its running jobs
pub record CoreState : Type 0 where
  pub view : Snapshot
  pub next : ℕ
  pub jobs : List RunningJob

-- its store of lists
unfoldable pub state_of : CoreState → Store
state_of k = store_of k.view k.next k.jobs

-- the core of no mutations
abbrev pub empty_core : Settings → CoreState
empty_core config = record { view = empty_snapshot config; next = 1; jobs = [] }

-- a job has files
abbrev pub HasSome : RunningJob → Type 0
HasSome t = is_empty t.ids ≡ false

-- its jobs stand in its store and have files, the numbers of files stay below those of snapshots, and there are few files
pub record IsStandingCore (k : CoreState) : Type 0 where
  pub jobs : StandsInJobs (rules_of k.view.config) (state_of k)
  pub next : k.next ≤ k.view.version + 1
  pub filled : AllByRecursion HasSome k.jobs
  pub few : length k.view.files ≤ max_files

-- one step of the store of lists, with its log, by one snapshot at the most; a refused one changes nothing
pub record IsStep (e : Event) (k l : CoreState) : Type 0 where
  pub store : state_of l ≡ store_after (rules_of k.view.config) (state_of k) e
  pub log : l.view.log ≡ log_after (rules_of k.view.config) (state_of k) k.view.log e
  pub config : l.view.config ≡ k.view.config
  pub extends : Extends l.view k.view
  pub version_rises_by_one_at_most : l.view.version ≤ k.view.version + 1
  pub unchanged : is_some (refuse (rules_of k.view.config) (state_of k) e) ≡ true → l ≡ k

-- the answer is that of the step; without memory no refusal stands, and nothing is changed
abbrev pub Answers : Event → CoreState → CoreState → Option StepAnswer → Type 0
Answers e k l None = (refuse (rules_of k.view.config) (state_of k) e ≡ None) × (l ≡ k)
Answers e k l (Some a) = (a ≡ answer_to_step (rules_of k.view.config) (state_of k) e) × IsStep e k l

-- a refusal is why a step is refused; none, that no refusal stands
abbrev pub IsRefusal : Option StepRefusal → Option StepAnswer → Type 0
IsRefusal None refusal = refusal ≡ None
IsRefusal (Some r) refusal = Some (model_refusal_of r) ≡ refusal
