-- A store of lists: what a tablet's memory, files and jobs hold. Accumulo's tablets have such parts; numbers of files and jobs, and one
-- frozen part at most, are this project's.
use Rattle.std.specs.Prelude.{ℕ, Bool, List, [], ◌++◌, Option, None, unwrap_or, eqb, not}
use Rattle.std.specs.List.{filter, flat_map, list_any}
use Rattle.tablet_model.specs.Cell.{Cell}
use Rattle.tablet_model.specs.Order.{above}
use Rattle.tablet_model.specs.Sorted.{sorted}

-- a file, with its number and its entries in order
pub record File : Type 0 where
  pub id : ℕ
  pub cells : List Cell

-- a running job: its number, whether it is a full compaction, and the numbers of its files
pub record RunningJob : Type 0 where
  pub job : ℕ
  pub full : Bool
  pub ids : List ℕ

-- a store: how many mutations came in, its files, the number of the next file, a frozen part or none, the memory, and the running jobs
pub record Store : Type 0 where
  pub count : ℕ
  pub files : List File
  pub next : ℕ
  pub frozen : Option (List Cell)
  pub memory : List Cell
  pub jobs : List RunningJob

-- the store at the beginning
unfoldable pub empty_store : Store
empty_store = record { count = 0; files = []; next = 1; frozen = None; memory = []; jobs = [] }

-- the entries of files, one file after another
unfoldable pub cells_of : List File → List Cell
cells_of files = flat_map (λ f. f.cells) files

-- the entries of the frozen part, none where there is none
unfoldable pub frozen_of : Store → List Cell
frozen_of s = unwrap_or s.frozen []

-- all entries of a store, part by part
unfoldable pub parts_of : Store → List Cell
parts_of s = cells_of s.files ++ (frozen_of s ++ s.memory)

-- all entries of a store, in order
unfoldable pub all_of : Store → List Cell
all_of s = sorted above (parts_of s)

-- whether a number is among others
unfoldable pub has_id : List ℕ → ℕ → Bool
has_id ids i = list_any (eqb i) ids

-- the files of these numbers
unfoldable pub files_with : List ℕ → List File → List File
files_with ids files = filter (λ f. has_id ids f.id) files

-- the files of other numbers
unfoldable pub files_without : List ℕ → List File → List File
files_without ids files = filter (λ f. not (has_id ids f.id)) files

-- what a job over the files of these numbers takes in: their entries, in order
unfoldable pub input_of : List ℕ → List File → List Cell
input_of ids files = sorted above (cells_of (files_with ids files))
