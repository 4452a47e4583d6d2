-- A snapshot of a tablet's parts, what it stands for, and what follows it. All of this is this project's own.
use Rattle.std.specs.Prelude.{◌≡◌, ℕ, ◌+◌, ◌⊎◌, pos, List, [], ◌∷◌, ◌++◌, length, Option, Some, None}
use Rattle.tablet_model.specs.Cell.{Cell}
use Rattle.tablet_model.specs.Compactions.{partial_compaction, full_compaction}
use Rattle.tablet_model.specs.History.{RowChange, entries_of}
use Rattle.tablet_model.specs.Ingest.{Refusal, ingest}
use Rattle.tablet_model.specs.Stands.{StandsInParts, AreAllNewer}
use Rattle.tablet_model.specs.Store.{Store, File, RunningJob, all_of, cells_of, input_of, files_with, files_without}
use Rattle.tablet_model.specs.Sum.{sum_of}
use Rattle.iter_config.specs.Order.{IsConfig}
use Rattle.iter_config.specs.RulesOf.{rules_of}
use Rattle.iter_config.specs.Settings.{Settings}

-- a configuration, the mutations that came in under it, the tablet's parts, and a number that rises from snapshot to snapshot
pub record Snapshot : Type 0 where
  pub config : Settings
  pub log : List RowChange
  pub files : List File
  pub frozen : Option (List Cell)
  pub memory : List Cell
  pub version : ℕ

-- the store of lists that has these parts, with a number for the next file and running jobs
unfoldable pub store_of : Snapshot → ℕ → List RunningJob → Store
store_of v next jobs = record { count = length v.log; files = v.files; next = next; frozen = v.frozen; memory = v.memory; jobs = jobs }

-- all entries, in order
abbrev pub entries_in : Snapshot → List Cell
entries_in v = all_of (store_of v 0 [])

-- a snapshot stands for its log: its configuration is accepted, and its parts answer as the log does
pub record IsStanding (v : Snapshot) : Type 0 where
  pub config : IsConfig v.config
  pub parts : StandsInParts (rules_of v.config) (store_of v 0 []) v.log

-- the snapshot of no mutations
abbrev pub empty_snapshot : Settings → Snapshot
empty_snapshot config = record { config = config; log = []; files = []; frozen = None; memory = []; version = 0 }

-- why a mutation stays out, if it does
abbrev pub refused_by : Snapshot → RowChange → Option Refusal
refused_by v m = ingest (rules_of v.config) (length v.log) m

-- where a mutation comes in, with the next number as its time
abbrev pub after_apply : Snapshot → RowChange → Snapshot
after_apply v m = record v { log = v.log ++ m ∷ []; memory = sum_of v.memory (entries_of (pos (length v.log + 1)) m); version = v.version + 1 }

-- where the memory is frozen
abbrev pub after_freeze : Snapshot → Snapshot
after_freeze v = record v { frozen = Some v.memory; memory = []; version = v.version + 1 }

-- where a file stands in the place of the frozen part
abbrev pub after_flush : Snapshot → ℕ → List Cell → Snapshot
after_flush v id cells = record v { files = v.files ++ record { id = id; cells = cells } ∷ []; frozen = None; version = v.version + 1 }

-- where a file stands in the place of those of some numbers
abbrev pub after_major : Snapshot → List ℕ → ℕ → List Cell → Snapshot
after_major v ids id cells = record v { files = files_without ids v.files ++ record { id = id; cells = cells } ∷ []; version = v.version + 1 }

-- the entries of the other files are newer than those of the files of these numbers
abbrev pub OthersAreNewer : Snapshot → List ℕ → Type 0
OthersAreNewer v ids = AreAllNewer (rules_of v.config).plain (cells_of (files_without ids v.files)) (cells_of (files_with ids v.files))

-- a list is a partial compaction of the files of these numbers, or a full one, and then all other entries are newer
abbrev pub IsMajorOf : Snapshot → List ℕ → List Cell → Type 0
IsMajorOf v ids cells =
    (cells ≡ partial_compaction (rules_of v.config).major (input_of ids v.files))
    ⊎ ((cells ≡ full_compaction (rules_of v.config).major (input_of ids v.files)) × OthersAreNewer v ids)
