-- What an `IntersectIter` has, by what its sources have. All of this is this project's own.
use Rattle.std.specs.Prelude.{◌≡◌, List, [], Bool, false, map, length}
use Rattle.std.specs.List.{AllByRecursion}
use Rattle.tablet_model.specs.Cell.{Cell}
use Rattle.tablet_model.specs.Order.{above}
use Rattle.tablet_model.specs.Sorted.{Ascends}
use Rattle.tablet_model.specs.Bounds.{AreEntries}
use Rattle.intersecting.specs.Firsts.{at_first, Ascends-first, first_bounded}
use Rattle.intersecting.specs.IntersectStages.{intersect_cells, intersect_left, IntersectFits}
use Rattle.intersecting.specs.IntersectLaws.{Ascends-intersected}
use Rattle.tablet_model.proofs.RowBounds.{intersected_bounded}
use Rattle.intersecting.specs.declared.intersect_iter.IntersectIter.{IntersectIter}
use Rattle.std.specs.Arc.{arc_value}

module _ {S : Type 0} where
  -- the documents of the source's entries that match
  abbrev pub iter_cells : (S → List Cell) → IntersectIter S → List Cell
  iter_cells cells it = intersect_cells it.stage (at_first cells [] it.sources.items)

  -- those that are left
  abbrev pub iter_rest : (S → List Cell) → IntersectIter S → List Cell
  iter_rest cells it = intersect_left it.stage (at_first cells [] it.sources.items)

  -- it is steady where its source is
  abbrev pub iter_steady : (S → Bool) → IntersectIter S → Bool
  iter_steady steady it = at_first steady false it.sources.items

  -- the sources' parts fit together, they have the same entries and are as steady as one another, and the stage fits to them
  abbrev pub iter_valid : (S → List Cell) → (S → Bool) → (S → Type 0) → IntersectIter S → Type 0
  iter_valid cells steady valid it =
      AllByRecursion valid it.sources.items
      × AllByRecursion (λ c. c ≡ at_first cells [] it.sources.items) (map cells it.sources.items)
      × AllByRecursion (λ b. b ≡ at_first steady false it.sources.items) (map steady it.sources.items)
      × IntersectFits it.stage (length it.sources.items) (at_first cells [] it.sources.items)

  -- they are in order where the source's are
  pub iter_sorted : (cells : S → List Cell) → ((s : S) → Ascends above (cells s)) → (it : IntersectIter S) → Ascends above (iter_cells cells it)
  iter_sorted cells up it = Ascends-intersected (arc_value it.stage.terms) (arc_value it.stage.without) (at_first cells [] it.sources.items) (Ascends-first cells up it.sources.items)

  -- they are within bounds where the source's are
  pub iter_bounded : (cells : S → List Cell) → ((s : S) → AreEntries (cells s)) → (it : IntersectIter S) → AreEntries (iter_cells cells it)
  iter_bounded cells all it = intersected_bounded (arc_value it.stage.terms) (arc_value it.stage.without) (at_first cells [] it.sources.items) (first_bounded cells all it.sources.items)
