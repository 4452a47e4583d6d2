-- What a stage makes of its source. All of this is this project's own.
use Rattle.std.specs.Prelude.{◌≡◌, true, cond, List, []}
use Rattle.tablet_model.specs.Cell.{Cell}
use Rattle.tablet_model.specs.Cuts.{Cut, Everything, Before, Behind, BeforeRow, BehindRow, is_before}
use Rattle.whole_row.specs.RowLists.{AreLive}
use Rattle.iter_contract.specs.Ends.{up_to}
use Rattle.whole_row.specs.RowPasses.{rows_from, held_of, is_whole, is_settled}
use Rattle.whole_row.specs.declared.stage.RowStage.{RowStage}

-- a start, moved to the beginning of its row
abbrev pub row_cut : Cut → Cut
row_cut Everything = Everything
row_cut (Before k) = BeforeRow k.row
row_cut (Behind k) = BeforeRow k.row
row_cut (BeforeRow r) = BeforeRow r
row_cut (BehindRow r) = BehindRow r

-- the rows' entries that are left, where `rest` is left of the source
abbrev pub row_left : RowStage → List Cell → List Cell
row_left stage rest = cond stage.is_sought
    (up_to (λ e. is_before stage.range.end e.key) (rows_from (held_of stage.is_held stage.column stage.buf) rest))
    []

-- no entry of the source is a marker; where the stage was sought, what is held is there, and the first entry that is left
-- is of another row
abbrev pub RowFits : RowStage → List Cell → List Cell → Type 0
RowFits stage cells rest =
    AreLive cells
    × (stage.is_sought ≡ true → (is_whole stage.is_held stage.column ≡ true)
    × (is_settled (held_of stage.is_held stage.column stage.buf) rest ≡ true))
