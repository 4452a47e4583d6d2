-- What a store keeps of its history, whatever steps it took. All of this is this project's own.
use Rattle.std.specs.Prelude.{◌≡◌, ℕ, ◌<◌, ◌≤◌, pos, ◌≤ℤ◌, ◌<ℤ◌, Bool, true, false, List, [], ◌∷◌, length, eqb, ⊤}
use Rattle.std.specs.List.{AllByRecursion}
use Rattle.tablet_model.specs.Cell.{Cell}
use Rattle.tablet_model.specs.Order.{above}
use Rattle.tablet_model.specs.Sorted.{Ascends}
use Rattle.tablet_model.specs.Markers.{live}
use Rattle.tablet_model.specs.Stages.{stages}
use Rattle.tablet_model.specs.History.{RowChange, history_entries}
use Rattle.tablet_model.specs.Rules.{Rules, AreStorable}
use Rattle.tablet_model.specs.Ingest.{IsHistory}
use Rattle.tablet_model.specs.Store.{Store, File, RunningJob, cells_of, frozen_of, parts_of, all_of, has_id, files_with, files_without}
use Rattle.tablet_model.specs.Steps.{ids_of}

-- the times of plain entries are above `low`, and at most `high`
abbrev pub AreWithin : (Cell → Bool) → ℕ → ℕ → List Cell → Type 0
AreWithin plain low high list = AllByRecursion (λ e. plain e ≡ true → (pos low <ℤ e.key.time) × (e.key.time ≤ℤ pos high)) list

-- of plain entries, the files' are older than the frozen part's, and these older than the memory's
pub record AreInOrder (plain : Cell → Bool) (s : Store) (n : ℕ) : Type 0 where
  pub settled : ℕ
  pub closed : ℕ
  pub order : settled ≤ closed
  pub bound : closed ≤ n
  pub in_files : AreWithin plain 0 settled (cells_of s.files)
  pub in_frozen : AreWithin plain settled closed (frozen_of s)
  pub in_memory : AreWithin plain closed n s.memory

-- each plain entry of x is newer than each plain entry of a, of whatever column
abbrev pub AreAllNewer : (Cell → Bool) → List Cell → List Cell → Type 0
AreAllNewer plain x a = AllByRecursion (λ e. plain e ≡ true → AllByRecursion (λ d. plain d ≡ true → d.key.time <ℤ e.key.time) a) x

-- the numbers of files rise
abbrev pub AreRising : List File → Type 0
AreRising [] = ⊤
AreRising (f ∷ fs) = AllByRecursion (λ g. f.id < g.id) fs × AreRising fs

-- the next number is above those of all files
abbrev pub AreBelow : ℕ → List File → Type 0
AreBelow next files = AllByRecursion (λ f. f.id < next) files

-- each number is that of a file
abbrev pub AreThere : List File → List ℕ → Type 0
AreThere files ids = AllByRecursion (λ i. has_id (ids_of files) i ≡ true) ids

-- two lists have no number in common
abbrev pub AreApartIds : List ℕ → List ℕ → Type 0
AreApartIds xs ys = AllByRecursion (λ i. has_id ys i ≡ false) xs

-- no file is in two jobs
abbrev pub AreApartJobs : List RunningJob → Type 0
AreApartJobs jobs = AllByRecursion (λ t. AllByRecursion (λ u. eqb t.job u.job ≡ false → AreApartIds t.ids u.ids) jobs) jobs

-- no two jobs have one number
abbrev pub HaveOwnNumbers : List RunningJob → Type 0
HaveOwnNumbers [] = ⊤
HaveOwnNumbers (t ∷ ts) = AllByRecursion (λ u. eqb t.job u.job ≡ false) ts × HaveOwnNumbers ts

-- what a store keeps in its parts: above all, its stages make of its live entries what they make of the history's
pub record StandsInParts (c : Rules) (s : Store) (h : List RowChange) : Type 0 where
  pub count_is : s.count ≡ length h
  pub history : IsHistory c h
  pub same : stages c.base (live (all_of s)) ≡ stages c.base (live (history_entries h))
  pub times : AreInOrder c.plain s (length h)
  pub entries : AreStorable c (parts_of s)
  pub frozen_sorted : Ascends above (frozen_of s)
  pub memory_sorted : Ascends above s.memory
  pub rising : AreRising s.files

-- what it keeps in its jobs: their files are there and in one job each, and all plain entries outside a full job's files are newer
pub record StandsInJobs (c : Rules) (s : Store) : Type 0 where
  pub below : AreBelow s.next s.files
  pub files_there : AllByRecursion (λ t. AreThere s.files t.ids) s.jobs
  pub own_numbers : HaveOwnNumbers s.jobs
  pub files_apart : AreApartJobs s.jobs
  pub others_newer : AllByRecursion (λ t. t.full ≡ true → AreAllNewer c.plain (cells_of (files_without t.ids s.files)) (cells_of (files_with t.ids s.files))) s.jobs

-- a store stands for its history
pub record Stands (c : Rules) (s : Store) (h : List RowChange) : Type 0 where
  pub in_parts : StandsInParts c s h
  pub in_jobs : StandsInJobs c s
