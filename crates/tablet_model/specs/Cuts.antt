-- Cuts in the order of keys, and ranges. Accumulo's ranges have such ends; cuts are this project's form of them.
use Rattle.std.specs.Prelude.{ℕ, Bool, true, List, ◌&&◌, filter}
use Rattle.std.specs.Ordering.{is_lt, is_le, is_gt, is_ge}
use Rattle.tablet_model.specs.Cell.{CellKey, Cell}
use Rattle.tablet_model.specs.Order.{key_cmp, bytes_cmp}

-- an end of a range: none, just before or behind a key, before the first or behind the last key of a row
pub data Cut : Type 0 where
  Everything : Cut
  Before : CellKey → Cut
  Behind : CellKey → Cut
  BeforeRow : List ℕ → Cut
  BehindRow : List ℕ → Cut

-- whether a key lies behind a start
abbrev pub is_behind : Cut → CellKey → Bool
is_behind Everything k = true
is_behind (Before b) k = is_ge (key_cmp k b)
is_behind (Behind b) k = is_gt (key_cmp k b)
is_behind (BeforeRow r) k = is_ge (bytes_cmp k.row r)
is_behind (BehindRow r) k = is_gt (bytes_cmp k.row r)

-- whether a key lies before an end
abbrev pub is_before : Cut → CellKey → Bool
is_before Everything k = true
is_before (Before b) k = is_lt (key_cmp k b)
is_before (Behind b) k = is_le (key_cmp k b)
is_before (BeforeRow r) k = is_lt (bytes_cmp k.row r)
is_before (BehindRow r) k = is_le (bytes_cmp k.row r)

-- a range of keys
pub record Span : Type 0 where
  pub start : Cut
  pub end : Cut

-- whether a range holds a key
abbrev pub holds : Span → CellKey → Bool
holds s k = is_behind s.start k && is_before s.end k

-- the entries of a list in a range
abbrev pub within : Span → List Cell → List Cell
within s list = filter (λ e. holds s e.key) list

-- whether a start lies before the end of a row
abbrev pub is_row_reached : Cut → List ℕ → Bool
is_row_reached Everything w = true
is_row_reached (Before b) w = is_le (bytes_cmp b.row w)
is_row_reached (Behind b) w = is_le (bytes_cmp b.row w)
is_row_reached (BeforeRow r) w = is_le (bytes_cmp r w)
is_row_reached (BehindRow r) w = is_le (bytes_cmp r w)
