-- The laws of the store of lists, as statements: this project's own theorems. Each step, with any jobs running, keeps that a store stands for
-- its history; and a store that stands for a history answers as the history does, whatever was frozen, written or compacted.
use Rattle.std.specs.Prelude.{◌≡◌, ℕ, List, [], ◌∷◌, ◌++◌, Option, None, Some, true, is_some}
use Rattle.tablet_model.specs.Cell.{Cell}
use Rattle.tablet_model.specs.Cuts.{Span}
use Rattle.tablet_model.specs.History.{RowChange}
use Rattle.tablet_model.specs.Rules.{Rules, AreSound, scan_stack}
use Rattle.tablet_model.specs.Ingest.{ingest}
use Rattle.tablet_model.specs.Answers.{scan_of, answer}
use Rattle.tablet_model.specs.Store.{Store, RunningJob, empty_store, cells_of, all_of, files_with, files_without, input_of}
use Rattle.tablet_model.specs.Steps.{Event, apply, freeze, flush, step, store_after, log_after, find_job, without_job}
use Rattle.tablet_model.specs.Stands.{Stands, StandsInParts, StandsInJobs, AreBelow, AreAllNewer}

-- the empty store stands for the empty history
abbrev pub EmptyStoreStands : Type 0
EmptyStoreStands = (c : Rules) → AreSound c → Stands c empty_store []

-- behind each step, refused or not, a store stands for its log
abbrev pub StepsStand : Type 0
StepsStand = (c : Rules) (s : Store) (h : List RowChange) (e : Event) → AreSound c → Stands c s h
    → Stands c (store_after c s e) (log_after c s h e)

-- the same of a store's parts alone, as a snapshot has them without jobs: where a mutation comes in behind its log
abbrev pub MutationsStand : Type 0
MutationsStand = (c : Rules) (s : Store) (h : List RowChange) (m : RowChange) → AreSound c → ingest c s.count m ≡ None → StandsInParts c s h
    → StandsInParts c (step c s (apply m)) (h ++ m ∷ [])

-- where its memory is frozen, and there was no frozen part
abbrev pub FreezesStand : Type 0
FreezesStand = (c : Rules) (s : Store) (h : List RowChange) → s.frozen ≡ None → StandsInParts c s h
    → StandsInParts c (step c s freeze) h

-- where its frozen part is written, to a file of a number above those of all files
abbrev pub FlushesStand : Type 0
FlushesStand = (c : Rules) (s : Store) (h : List RowChange) → AreSound c → AreBelow s.next s.files → StandsInParts c s h
    → StandsInParts c (step c s flush) h

-- and where a compaction of some of its files comes in their place, for a full one if all other files are newer
abbrev pub CompactionsStand : Type 0
CompactionsStand = (c : Rules) (s : Store) (h : List RowChange) (t : RunningJob) → AreSound c → AreBelow s.next s.files
    → (t.full ≡ true → AreAllNewer c.plain (cells_of (files_without t.ids s.files)) (cells_of (files_with t.ids s.files))) → StandsInParts c s h
    → StandsInParts c (without_job c s t) h

-- a scan of a store that stands for a history answers as the history does, in each range and each set of families
abbrev pub StoresAnswer : Type 0
StoresAnswer = (c : Rules) (s : Store) (h : List RowChange) (range : Span) (families : Option (List (List ℕ))) → AreSound c → Stands c s h
    → scan_of (scan_stack c) range families (all_of s) ≡ answer (scan_stack c) range families h

-- a step that adds no mutation changes no answer
abbrev pub StepsAreUnseen : Type 0
StepsAreUnseen = (c : Rules) (s : Store) (h : List RowChange) (e : Event) (range : Span) (families : Option (List (List ℕ))) → AreSound c → Stands c s h
    → log_after c s h e ≡ h
    → scan_of (scan_stack c) range families (all_of (store_after c s e)) ≡ scan_of (scan_stack c) range families (all_of s)

-- while a job runs, what it took in stays
abbrev pub InputsStay : Type 0
InputsStay = (c : Rules) (s : Store) (e : Event) (j : ℕ) (t : RunningJob) → StandsInJobs c s
    → find_job j s.jobs ≡ Some t → find_job j (store_after c s e).jobs ≡ Some t
    → input_of t.ids (store_after c s e).files ≡ input_of t.ids s.files

-- a frozen part stays until it is written
abbrev pub FrozenPartsStay : Type 0
FrozenPartsStay = (c : Rules) (s : Store) (e : Event) (frozen : List Cell) → s.frozen ≡ Some frozen → is_some (store_after c s e).frozen ≡ true
    → (store_after c s e).frozen ≡ Some frozen
