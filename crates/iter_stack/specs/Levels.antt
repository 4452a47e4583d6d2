-- What a `Level` has, by what its sources have. All of this is this project's own.
use Rattle.std.specs.Prelude.{Bool, false, List, [], map, length}
use Rattle.std.specs.List.{AllByRecursion}
use Rattle.tablet_model.specs.Cell.{Cell}
use Rattle.tablet_model.specs.Order.{above}
use Rattle.tablet_model.specs.Sorted.{Ascends}
use Rattle.tablet_model.specs.Bounds.{AreEntries}
use Rattle.intersecting.specs.Firsts.{at_first, Ascends-first, first_bounded}
use Rattle.iter_stack.specs.LevelStages.{stage_cells, stage_left, stage_steady, StageFits, stage_sorted, stage_bounded}
use Rattle.iter_stack.specs.declared.level.Level.{Level}

module _ {S : Type 0} where
  -- what its stage makes of the first source's entries
  unfoldable pub level_cells : (S → List Cell) → Level S → List Cell
  level_cells cells l = stage_cells l.stage (at_first cells [] l.sources.items)

  -- what its stage has left of them
  unfoldable pub level_rest : (S → List Cell) → (S → List Cell) → Level S → List Cell
  level_rest cells rest l = stage_left l.stage (at_first cells [] l.sources.items) (at_first rest [] l.sources.items)

  -- it is steady where its first source and its stage are
  unfoldable pub level_steady : (S → Bool) → Level S → Bool
  level_steady steady l = stage_steady l.stage (at_first steady false l.sources.items)

  -- the sources' parts fit together, and the stage fits to the sources
  unfoldable pub level_valid : (S → List Cell) → (S → List Cell) → (S → Type 0) → Level S → Type 0
  level_valid cells rest valid l =
      AllByRecursion valid l.sources.items
      × StageFits l.stage (length l.sources.items) (map cells l.sources.items) (at_first cells [] l.sources.items) (at_first rest [] l.sources.items)

  -- its entries are in order where the source's are
  pub level_sorted : (cells : S → List Cell) → ((s : S) → Ascends above (cells s)) → (l : Level S) → Ascends above (level_cells cells l)
  unfolding level_cells
  level_sorted cells up l = stage_sorted l.stage (at_first cells [] l.sources.items) (Ascends-first cells up l.sources.items)

  -- they are within bounds where the source's are
  pub level_bounded : (cells : S → List Cell) → ((s : S) → Ascends above (cells s)) → ((s : S) → AreEntries (cells s))
      → (l : Level S) → AreEntries (level_cells cells l)
  unfolding level_cells
  level_bounded cells up all l =
      stage_bounded l.stage (at_first cells [] l.sources.items) (Ascends-first cells up l.sources.items) (first_bounded cells all l.sources.items)
