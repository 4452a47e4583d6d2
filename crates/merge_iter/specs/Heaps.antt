-- Sources in a binary heap by their tops: the children of the source at a place p stand at 2p + 1 and 2p + 2. This is this project's own.
use Rattle.std.specs.Prelude.{◌≡◌, ℕ, ◌+◌, ◌*◌, ◌<◌, ◌≤◌, false, List, length, map, slice_index_or}
use Rattle.std.specs.List.{AllByRecursion}
use Rattle.tablet_model.specs.Cell.{Cell}
use Rattle.tablet_model.specs.Order.{above}
use Rattle.tablet_model.specs.Sorted.{Ascends}
use Rattle.iter_contract.specs.Several.{has_later_top}

module _ {S : Type 0} where
  -- from a place on, no source has a later top than a child of its own
  abbrev pub IsHeapFrom : (S → List Cell) → ℕ → List S → Type 0
  IsHeapFrom rest low sources =
      (parent child : ℕ) (d : S) → low ≤ parent → parent * 2 + 1 ≤ child → child ≤ parent * 2 + 2 → child < length sources
      → has_later_top rest (slice_index_or sources parent d) (slice_index_or sources child d) ≡ false

  -- the source at a place has no later top than a child of the one at another
  abbrev pub IsBeforeChildren : (S → List Cell) → List S → ℕ → ℕ → Type 0
  IsBeforeChildren rest sources place parent =
      (child : ℕ) (d : S) → parent * 2 + 1 ≤ child → child ≤ parent * 2 + 2 → child < length sources
      → has_later_top rest (slice_index_or sources place d) (slice_index_or sources child d) ≡ false

-- what is left of each source is in order, and no source has a later top than a child of its own
pub record IsHeap {S : Type 0} (rest : S → List Cell) (sources : List S) : Type 0 where
  pub each : AllByRecursion (Ascends above) (map rest sources)
  pub by_top : IsHeapFrom rest 0 sources
