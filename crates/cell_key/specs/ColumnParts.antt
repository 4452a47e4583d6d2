-- A kept column, as its parts in one run of bytes. All of this is this project's own.
use Rattle.std.specs.Prelude.{ℕ, ◌≡◌, ◌≤◌, ◌-◌, true, List, Option, Some, None, if◌then◌else◌, take, drop, length, vec_capacity}
use Rattle.tablet_model.specs.Cell.{Column}
use Rattle.tablet_model.specs.Bounds.{KeyBounds}
use Rattle.cell_key.specs.declared.column_buf.ColumnBuf.TheInside.{Inside}

-- the column whose row, family and qualifier end at these places
abbrev pub parts_of : List ℕ → ℕ → ℕ → ℕ → Column
parts_of bytes row family qualifier = record {
  row = take row bytes;
  family = take (family - row) (drop row bytes);
  qualifier = take (qualifier - family) (drop family bytes);
  visibility = drop qualifier bytes;
}

-- the column that is kept, if one was set
abbrev pub kept_column : Inside → Option Column
kept_column b = if b.is_set then Some (parts_of b.bytes.items b.row b.family b.qualifier) else None

-- the parts of a column are within the bounds of a key's
abbrev pub IsColumn : Column → Type 0
IsColumn c = KeyBounds c.row c.family c.qualifier c.visibility

-- there is room for the longest column, and the parts are within bounds
pub record IsReserved (b : Inside) : Type 0 where
  pub room : 4096 ≤ vec_capacity b.bytes
  pub order_row : b.row ≤ b.family
  pub order_family : b.family ≤ b.qualifier
  pub order_qualifier : b.qualifier ≤ length b.bytes.items
  pub parts : b.is_set ≡ true → IsColumn (parts_of b.bytes.items b.row b.family b.qualifier)
