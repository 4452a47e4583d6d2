-- The text of a whole row: its entries without the row. All numbers are big-endian. The format is this project's own.
use Rattle.std.specs.Prelude.{ℕ, List, ◌++◌, length}
use Rattle.std.specs.Int.{w64, cast_unsigned}
use Rattle.std.specs.List.{flat_map}
use Rattle.byteorder.specs.Endian.{big_bytes}
use Rattle.tablet_model.specs.Cell.{Cell}
use Rattle.tablet_model.specs.Rows.{last_time, whole_row}

-- a part of a key: its length in two bytes, and its bytes
abbrev pub part_bytes : List ℕ → List ℕ
part_bytes part = big_bytes 2 (length part) ++ part

-- a value: its length in eight bytes, and its bytes
abbrev pub value_bytes : List ℕ → List ℕ
value_bytes value = big_bytes 8 (length value) ++ value

-- an entry: the parts of its key but the row, its time in eight bytes, and its value
unfoldable pub entry_bytes : Cell → List ℕ
entry_bytes e =
    part_bytes e.key.family ++ part_bytes e.key.qualifier ++ part_bytes e.key.visibility
    ++ big_bytes 8 (cast_unsigned w64 e.key.time) ++ value_bytes e.value

-- some entries, one behind the other
abbrev pub entries_bytes : List Cell → List ℕ
entries_bytes list = flat_map entry_bytes list

-- the text of a row: the number of its entries in eight bytes, and the entries in order
unfoldable pub row_text : List Cell → List ℕ
row_text list = big_bytes 8 (length list) ++ entries_bytes list

-- one entry for each row, whose value is the text of the row's entries (Accumulo's `WholeRowIterator`)
abbrev pub whole_rows : List Cell → List Cell
whole_rows list = whole_row last_time row_text list
