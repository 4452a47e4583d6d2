-- What a `RowIter` has, by what its source has. All of this is this project's own.
use Rattle.std.specs.Prelude.{List, Bool, false}
use Rattle.tablet_model.specs.Cell.{Cell}
use Rattle.tablet_model.specs.Order.{above}
use Rattle.tablet_model.specs.Sorted.{Ascends}
use Rattle.tablet_model.specs.Bounds.{AreEntries}
use Rattle.tablet_model.specs.RowText.{whole_rows}
use Rattle.tablet_model.proofs.RowBounds.{whole_rows_bounded}
use Rattle.whole_row.specs.RowStages.{row_left, RowFits}
use Rattle.whole_row.specs.RowLaws.{Ascends-whole_rows}
use Rattle.whole_row.specs.declared.row_iter.RowIter.{RowIter}

module _ {S : Type 0} where
  -- one entry for each of the source's rows
  abbrev pub row_cells : (S → List Cell) → RowIter S → List Cell
  row_cells cells it = whole_rows (cells it.source)

  -- the rows' entries that are left
  abbrev pub row_rest : (S → List Cell) → RowIter S → List Cell
  row_rest rest it = row_left it.stage (rest it.source)

  -- it takes memory for the texts of rows
  abbrev pub row_steady : RowIter S → Bool
  row_steady it = false

  -- the source's parts fit together, and the stage fits to the source
  abbrev pub row_valid : (S → List Cell) → (S → List Cell) → (S → Type 0) → RowIter S → Type 0
  row_valid cells rest valid it = valid it.source × RowFits it.stage (cells it.source) (rest it.source)

  -- they are in order where the source's are
  pub row_sorted : (cells : S → List Cell) → ((s : S) → Ascends above (cells s)) → (it : RowIter S) → Ascends above (row_cells cells it)
  row_sorted cells up it = Ascends-whole_rows (cells it.source) (up it.source)

  -- they are within bounds where the source's are
  pub row_bounded : (cells : S → List Cell) → ((s : S) → AreEntries (cells s)) → (it : RowIter S) → AreEntries (row_cells cells it)
  row_bounded cells all it = whole_rows_bounded (cells it.source) (all it.source)
