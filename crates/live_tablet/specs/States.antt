-- What contracts see of the loader, a reader and a note. All of this is this project's own.
use Rattle.std.specs.Prelude.{◌≡◌, ℕ}
use Rattle.atomic_table.specs.Seated.{TableId}
use Rattle.tablet_view.specs.Snapshot.{Snapshot}
use Rattle.tablet_model.specs.Rules.{Rules}
use Rattle.iter_config.specs.RulesOf.{rules_of}
use Rattle.tablet_core.specs.State.{CoreState, state_of}
use Rattle.tablet_loader.specs.Loads.{Load}

-- a loader: its tablet, its core, the number of the job that it started last, and the view last published
pub record LoaderState : Type 0 where
  pub tablet : TableId
  pub core : CoreState
  pub job : ℕ
  pub published : Snapshot

-- a reader: its tablet, the newest view that it has seen or learnt, and how many questions it was asked
pub record ReaderState : Type 0 where
  pub tablet : TableId
  pub newest : Snapshot
  pub questions : ℕ

-- a note: its tablet, and the view that it stands for
pub record NoteState : Type 0 where
  pub tablet : TableId
  pub shown : Snapshot

-- a reader of a tablet that has seen this view alone
abbrev pub IsNew : TableId → Snapshot → ReaderState → Type 0
IsNew tablet first r = (r.tablet ≡ tablet) × (r.newest ≡ first) × (r.questions ≡ 0)

-- what a loader has in the words of loads: its store, and the number of its last job
abbrev pub load_in : LoaderState → Load
load_in l = record { store = state_of l.core; job = l.job }

-- the rules of its configuration
abbrev pub rules_of_loader : LoaderState → Rules
rules_of_loader l = rules_of l.core.view.config
