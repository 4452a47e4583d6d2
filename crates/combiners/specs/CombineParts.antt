-- What a `CombineIter` has, by what its source and its reducer have. All of this is this project's own.
use Rattle.std.specs.Prelude.{ℤ, List, Bool, Option}
use Rattle.std.specs.Arc.{arc_value}
use Rattle.tablet_model.specs.Cell.{Cell}
use Rattle.tablet_model.specs.Order.{above}
use Rattle.tablet_model.specs.Sorted.{Ascends}
use Rattle.tablet_model.specs.Bounds.{AreEntries}
use Rattle.tablet_model.specs.Reductions.{Reduction}
use Rattle.tablet_model.proofs.Risings.{Ascends-combined}
use Rattle.cell_key.specs.Listed.{column_listed, listed_of_columns}
use Rattle.combiners.specs.CombineLaws.{combined_bounded}
use Rattle.combiners.specs.CombineStages.{combine_cells, combine_left, combine_steady, CombineFits}
use Rattle.combiners.specs.declared.combine_iter.CombineIter.{CombineIter}

module _ {S R : Type 0} where
  -- the source's entries, combined
  abbrev pub combine_cells_of : (S → List Cell) → (R → Reduction) → CombineIter S R → List Cell
  combine_cells_of cells reduction it = combine_cells reduction it.stage (cells it.source)

  -- the combined entries that are left
  abbrev pub combine_rest : (S → List Cell) → (R → Reduction) → (R → Option (List ℤ)) → CombineIter S R → List Cell
  combine_rest rest reduction joined it = combine_left reduction joined it.stage (rest it.source)

  -- it is steady where source and reducer are
  abbrev pub combine_steady_of : (S → Bool) → (R → Bool) → CombineIter S R → Bool
  combine_steady_of steady steady_reducer it = combine_steady steady_reducer it.stage (steady it.source)

  -- the source's parts fit together, and the stage fits to the source
  abbrev pub combine_valid : (S → List Cell) → (S → List Cell) → (S → Type 0) → (R → Reduction) → (R → Option (List ℤ)) → CombineIter S R → Type 0
  combine_valid cells rest valid reduction joined it =
      valid it.source × CombineFits reduction joined it.stage (cells it.source) (rest it.source)

  -- they are in order where the source's are
  pub combine_sorted : (cells : S → List Cell) → ((s : S) → Ascends above (cells s)) → (reduction : R → Reduction)
      → (it : CombineIter S R) → Ascends above (combine_cells_of cells reduction it)
  combine_sorted cells up reduction it =
      Ascends-combined (column_listed (arc_value it.stage.columns)) (listed_of_columns (arc_value it.stage.columns)) (reduction it.stage.reducer) (cells it.source) (up it.source)

  -- they are within bounds where the source's are
  pub combine_bounded : (cells : S → List Cell) → ((s : S) → AreEntries (cells s)) → (reduction : R → Reduction)
      → (it : CombineIter S R) → AreEntries (combine_cells_of cells reduction it)
  combine_bounded cells all reduction it =
      combined_bounded (column_listed (arc_value it.stage.columns)) (reduction it.stage.reducer) (cells it.source) (all it.source)
