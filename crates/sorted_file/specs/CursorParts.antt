-- What a cursor has, by its fields (this project's own).
use Rattle.std.specs.Prelude.{List, slice_range}
use Rattle.std.specs.Arc.{arc_value}
use Rattle.tablet_model.specs.Cell.{Cell}
use Rattle.sorted_file.specs.declared.cursor.FileCursor.{FileCursor}

-- the entries of the file
abbrev pub cursor_cells : FileCursor → List Cell
cursor_cells c = (arc_value c.file).cells

-- their part from the top to the end
abbrev pub cursor_rest : FileCursor → List Cell
cursor_rest c = slice_range (cursor_cells c) c.top.index c.end
