-- Which entries may be parted, and where a reader stands behind one. All of this is this project's own; that a scan goes on behind the last
-- key that it returned is Accumulo's (Accumulo 2.1 manual, "Iterator Design").
use Rattle.std.specs.Prelude.{Bool, true, false, not, List, [], ◌∷◌}
use Rattle.std.specs.Ordering.{eq_by_cmp}
use Rattle.tablet_model.specs.Cell.{Cell, CellKey}
use Rattle.tablet_model.specs.Order.{key_cmp, bytes_cmp}
use Rattle.tablet_model.specs.Places.{Place, Start, AfterKey, AfterRow}

-- a plain reader goes on behind a key, an isolated one behind a row (Accumulo's isolated scanner sees a row whole)
pub data Mode : Type 0 where
  plain : Mode
  isolated : Mode

abbrev pub mode_of : Bool → Mode
mode_of true = isolated
mode_of false = plain

-- whether two entries, one next to the other, may not be parted: those of one key, or of one row
unfoldable pub together : Mode → Cell → Cell → Bool
together plain a b = eq_by_cmp key_cmp a.key b.key
together isolated a b = eq_by_cmp bytes_cmp a.key.row b.key.row

-- the place behind an entry
unfoldable pub behind : Mode → Cell → Place
behind plain e = AfterKey e.key
behind isolated e = AfterRow e.key.row

-- whether the first of some entries may be parted from the next one, or there is none
abbrev pub may_part : Mode → List Cell → Bool
may_part mode [] = false
may_part mode (e ∷ []) = true
may_part mode (e ∷ x ∷ xs) = not (together mode e x)

-- whether a place is the one behind an entry of this key, or of its row
abbrev pub stands_behind : Place → CellKey → Bool
stands_behind Start k = false
stands_behind (AfterKey p) k = eq_by_cmp key_cmp p k
stands_behind (AfterRow w) k = eq_by_cmp bytes_cmp w k.row

-- the place behind the first of some entries, or the start, where there is none
abbrev pub place_behind_first : Mode → List Cell → Place
place_behind_first mode [] = Start
place_behind_first mode (e ∷ es) = behind mode e

-- whether some entries begin with one that a place is behind
abbrev pub begins_at : Place → List Cell → Bool
begins_at p [] = false
begins_at p (e ∷ es) = stands_behind p e.key
