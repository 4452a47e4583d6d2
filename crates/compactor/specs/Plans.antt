-- Which files the next major compaction takes. The ratio of three is that of Accumulo 2.1 (manual, "Compactions", and the property
-- table.compaction.major.ratio): a set of files is compacted where its largest file has at most a third of what they have together.
-- Sizes are counts of entries here, and which set is taken, and what happens beyond 15 files, is this project's own.
use Rattle.std.specs.Prelude.{ℕ, ◌*◌, ◌-◌, Bool, false, cond, List, [], ◌∷◌, length, map, drop, nat_lt, nat_le, Option, Some, None}
use Rattle.std.specs.List.{sum_by}
use Rattle.std.specs.Ordering.{is_gt, nat_cmp, ordering_then}
use Rattle.std.specs.declared.cmp.Ordering.{Ordering}
use Rattle.tablet_model.specs.Sorted.{sorted}
use Rattle.cell_key.specs.FileNumbers.{with_numbers}
use Rattle.compactor.specs.declared.file_sets.FileCount.{FileCount}

-- files by their counts, the greatest first, and by number where counts are equal
abbrev pub size_cmp : FileCount → FileCount → Ordering
size_cmp f g = ordering_then (nat_cmp g.count f.count) (nat_cmp f.id g.id)

-- the files in that order
abbrev pub by_size : List FileCount → List FileCount
by_size files = sorted (λ f g. is_gt (size_cmp f g)) files

-- how many entries files have together
abbrev pub total : List FileCount → ℕ
total files = sum_by (λ f. f.count) files

-- at least two files, of which the first has at most a third of all entries
abbrev pub is_even : List FileCount → Bool
is_even [] = false
is_even (f ∷ []) = false
is_even (f ∷ g ∷ files) = nat_le (3 * f.count) (total (f ∷ g ∷ files))

-- the first such set of a file and all behind it
unfoldable pub even_set : List FileCount → List FileCount
even_set [] = []
even_set (f ∷ files) = cond (is_even (f ∷ files)) (f ∷ files) (even_set files)

-- the last eight of more than 15 files
abbrev pub last_of_many : List FileCount → List FileCount
last_of_many files = cond (nat_lt 15 (length files)) (drop (length files - 8) files) []

-- an even set, and where there is none the last of many files
abbrev pub set_of : List FileCount → List FileCount → List FileCount
set_of [] files = last_of_many files
set_of (f ∷ set) files = f ∷ set

-- the numbers of a set, ascending, if it has files
abbrev pub numbers_of : List FileCount → Option (List ℕ)
numbers_of [] = None
numbers_of (f ∷ set) = Some (with_numbers (map (λ g. g.id) (f ∷ set)) [])

-- the numbers of the files that a compaction takes, if it is worth one
unfoldable pub choice : List FileCount → Option (List ℕ)
choice files = numbers_of (set_of (even_set (by_size files)) (by_size files))
