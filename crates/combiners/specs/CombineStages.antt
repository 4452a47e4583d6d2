-- What a stage makes of its source. All of this is this project's own.
use Rattle.std.specs.Prelude.{◌≡◌, ℤ, Bool, true, ◌&&◌, cond, List, [], Option}
use Rattle.std.specs.Arc.{arc_value}
use Rattle.tablet_model.specs.Cell.{Cell}
use Rattle.tablet_model.specs.Cuts.{is_before}
use Rattle.tablet_model.specs.Combines.{combine_columns}
use Rattle.tablet_model.specs.Reading.{AreInFront}
use Rattle.tablet_model.specs.Reductions.{Reduction}
use Rattle.cell_key.specs.Listed.{column_listed}
use Rattle.iter_contract.specs.Ends.{up_to}
use Rattle.combiners.specs.Gathers.{combined_from, AreRead, held_of, is_whole, is_settled}
use Rattle.combiners.specs.declared.stage.CombineStage.{CombineStage}

module _ {R : Type 0} where
  -- the source's entries, combined
  abbrev pub combine_cells : (R → Reduction) → CombineStage R → List Cell → List Cell
  combine_cells reduction stage cells = combine_columns (column_listed (arc_value stage.columns)) (reduction stage.reducer) cells

  -- the combined entries that are left, where `rest` is left of the source
  abbrev pub combine_left : (R → Reduction) → (R → Option (List ℤ)) → CombineStage R → List Cell → List Cell
  combine_left reduction joined stage rest = cond stage.is_sought
      (up_to (λ e. is_before stage.range.end e.key)
      (combined_from (arc_value stage.columns) (reduction stage.reducer) (held_of stage.is_held stage.column stage.time (joined stage.reducer)) rest))
      []

  -- it is steady where source and reducer are
  abbrev pub combine_steady : (R → Bool) → CombineStage R → Bool → Bool
  combine_steady steady stage source = source && steady stage.reducer

  -- in the listed columns the reducer reads each value, and no other entry stands after a marker; where the stage was
  -- sought, what is held is there, and the first entry that is left is not to be joined to it
  abbrev pub CombineFits : (R → Reduction) → (R → Option (List ℤ)) → CombineStage R → List Cell → List Cell → Type 0
  CombineFits reduction joined stage cells rest =
      AreRead (arc_value stage.columns) (reduction stage.reducer) cells
      × AreInFront (column_listed (arc_value stage.columns)) [] cells
      × (stage.is_sought ≡ true → (is_whole stage.is_held stage.column (joined stage.reducer) ≡ true)
      × AreRead (arc_value stage.columns) (reduction stage.reducer) rest
      × (is_settled (arc_value stage.columns) (held_of stage.is_held stage.column stage.time (joined stage.reducer)) rest ≡ true))
