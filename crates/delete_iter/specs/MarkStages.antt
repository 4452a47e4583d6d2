-- What a stage hides and keeps. All of this is this project's own.
use Rattle.std.specs.Prelude.{◌&&◌, not, Bool, true, false, cond, List, Option, Some, None}
use Rattle.tablet_model.specs.Cell.{Cell, Column, column_of}
use Rattle.tablet_model.specs.Columns.{is_column}
use Rattle.tablet_model.specs.Markers.{mark}
use Rattle.delete_iter.specs.declared.mark_stage.MarkStage.{MarkStage}

-- what it makes of a list
abbrev pub mark_made : MarkStage → List Cell → List Cell
mark_made s = mark

-- the column that is hidden, if one is
abbrev pub hidden_in : MarkStage → Option Column
hidden_in s = cond s.is_hiding s.column None

-- whether an entry is kept: it is not of the hidden column
abbrev pub keeps : MarkStage → Cell → Bool
keeps s e = not (is_column (hidden_in s) (column_of e.key))

-- behind an entry: a marker that is kept hides its column
abbrev pub after_entry : MarkStage → Cell → MarkStage
after_entry s e = cond (keeps s e && e.key.deleted) (record s { column = Some (column_of e.key); is_hiding = true }) s

-- before a list
abbrev pub without_hidden : MarkStage → MarkStage
without_hidden s = record s { is_hiding = false }
