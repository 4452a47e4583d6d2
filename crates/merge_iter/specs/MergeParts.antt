-- What a `MergeIter` has, by what its sources have. All of this is this project's own.
use Rattle.std.specs.Prelude.{◌≡◌, Bool, true, cond, List, [], ◌∷◌, map}
use Rattle.std.specs.List.{AllByRecursion, flat_map}
use Rattle.tablet_model.specs.Cell.{Cell}
use Rattle.tablet_model.specs.Order.{above}
use Rattle.tablet_model.specs.Sorted.{Ascends}
use Rattle.tablet_model.specs.Sum.{sum_all}
use Rattle.tablet_model.specs.Bounds.{IsEntry, AreEntries}
use Rattle.tablet_model.proofs.Merges.{all_append, all_sorted}
use Rattle.tablet_model.proofs.Orders.{above_exact}
use Rattle.tablet_model.proofs.Sums.{Ascends-sorted}
use Rattle.iter_contract.specs.Several.{all_steady}
use Rattle.merge_iter.specs.Heaps.{IsHeap}
use Rattle.merge_iter.specs.declared.merge.MergeIter.{MergeIter}

module _ {S : Type 0} where
  -- the sum of the sources' entries
  abbrev pub merge_cells : (S → List Cell) → MergeIter S → List Cell
  merge_cells cells it = sum_all (map cells it.sources.items)

  -- the sum of what is left of them, once they were sought
  abbrev pub merge_rest : (S → List Cell) → MergeIter S → List Cell
  merge_rest rest it = cond it.is_sought (sum_all (map rest it.sources.items)) []

  -- it is steady where all its sources are
  abbrev pub merge_steady : (S → Bool) → MergeIter S → Bool
  merge_steady steady it = all_steady steady it.sources.items

  -- the parts of each source fit together, and once they were sought, the sources stand in a heap by their tops
  abbrev pub merge_valid : (S → List Cell) → (S → Type 0) → MergeIter S → Type 0
  merge_valid rest valid it =
      AllByRecursion valid it.sources.items × (it.is_sought ≡ true → IsHeap rest it.sources.items)

  -- a sum is in order
  pub merge_sorted : (cells : S → List Cell) → (it : MergeIter S) → Ascends above (merge_cells cells it)
  unfolding sum_all
  merge_sorted cells it = Ascends-sorted above above_exact (flat_map (λ l. l) (map cells it.sources.items))

  entries_within : (cells : S → List Cell) → ((s : S) → AreEntries (cells s)) → (sources : List S) → AreEntries (flat_map (λ l. l) (map cells sources))
  entries_within cells all [] = tt
  entries_within cells all (s ∷ ss) = all_append IsEntry (cells s) (flat_map (λ l. l) (map cells ss)) (all s) (entries_within cells all ss)

  -- it is within bounds where the sources' entries are
  pub merge_bounded : (cells : S → List Cell) → ((s : S) → AreEntries (cells s)) → (it : MergeIter S) → AreEntries (merge_cells cells it)
  unfolding sum_all
  merge_bounded cells all it = all_sorted above above_exact IsEntry (flat_map (λ l. l) (map cells it.sources.items)) (entries_within cells all it.sources.items)
