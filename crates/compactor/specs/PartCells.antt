-- What a cursor over a part of a tablet has, and several of them together. All of this is this project's own.
use Rattle.std.specs.Prelude.{List, map}
use Rattle.tablet_model.specs.Cell.{Cell}
use Rattle.tablet_model.specs.Order.{above}
use Rattle.tablet_model.specs.Sorted.{Ascends}
use Rattle.tablet_model.specs.Bounds.{AreEntries}
use Rattle.tablet_model.specs.Sum.{sum_all}
use Rattle.memory_map.specs.CursorParts.{mem_cells, mem_rest, mem_sorted, mem_bounded}
use Rattle.sorted_file.specs.CursorParts.{cursor_cells, cursor_rest}
use Rattle.compactor.specs.declared.part_cursor.PartCursor.{PartCursor}
use Rattle.compactor.specs.declared.part_cursor.PartCursor.TheVariants.{Memory, File}

-- the part's entries
abbrev pub part_cells : PartCursor → List Cell
part_cells (Memory cursor) = mem_cells cursor
part_cells (File cursor) = cursor_cells cursor

-- those of them that are left
abbrev pub part_rest : PartCursor → List Cell
part_rest (Memory cursor) = mem_rest cursor
part_rest (File cursor) = cursor_rest cursor

-- they are in order
pub part_sorted : (c : PartCursor) → Ascends above (part_cells c)
part_sorted (Memory cursor) = mem_sorted cursor
part_sorted (File cursor) = cursor.is_sorted

-- they are within bounds
pub part_bounded : (c : PartCursor) → AreEntries (part_cells c)
part_bounded (Memory cursor) = mem_bounded cursor
part_bounded (File cursor) = cursor.is_bounded

-- the sorted union of the entries of some parts
abbrev pub union_of : List PartCursor → List Cell
union_of parts = sum_all (map part_cells parts)
