-- One pass over a sorted list that makes each row one entry. All of this is this project's own.
use Rattle.std.specs.Prelude.{ℕ, Bool, true, false, not, cond, List, [], ◌∷◌, Option, Some, None}
use Rattle.tablet_model.specs.Cell.{Cell, CellKey, Column}
use Rattle.tablet_model.specs.Rows.{same_bytes, last_time}
use Rattle.whole_row.specs.Bodies.{Body, no_entries, with_entry, body_text}

-- a row whose entries are being put together
pub record Held : Type 0 where
  pub row : List ℕ
  pub body : Body

-- the key of the entry that stands for a row
abbrev pub row_key : List ℕ → CellKey
row_key row = record { row = row; family = []; qualifier = []; visibility = []; time = last_time; deleted = false }

-- an entry that is to be put to those of the held row
abbrev pub joins : Option Held → Cell → Bool
joins None e = false
joins (Some held) e = same_bytes held.row e.key.row

-- what is held with an entry more
abbrev pub held_with : Option Held → Cell → Option Held
held_with None e = None
held_with (Some held) e = Some (record { row = held.row; body = with_entry held.body e })

-- what is held after the first entry of a row
abbrev pub held_from : Cell → Option Held
held_from e = Some (record { row = e.key.row; body = with_entry no_entries e })

-- what is held, in front of what follows
abbrev pub with_held : Option Held → List Cell → List Cell
with_held None list = list
with_held (Some held) list = record { key = row_key held.row; value = body_text held.body } ∷ list

-- what the pass makes of what is left, where a row may be held
abbrev pub rows_from : Option Held → List Cell → List Cell
rows_from held [] = with_held held []
rows_from held (e ∷ es) = cond (joins held e) (rows_from (held_with held e) es) (with_held held (rows_from (held_from e) es))

-- what is held, if something is: the row of a column, and its entries
abbrev pub held_of : Bool → Option Column → Body → Option Held
held_of false c body = None
held_of true None body = None
held_of true (Some c) body = Some (record { row = c.row; body = body })

-- a column is there, if its row is to be held
abbrev pub is_whole : Bool → Option Column → Bool
is_whole false c = true
is_whole true None = false
is_whole true (Some c) = true

-- nothing is left, or a row is held and the first entry that is left is of another one
abbrev pub is_settled : Option Held → List Cell → Bool
is_settled held [] = true
is_settled None (e ∷ es) = false
is_settled (Some held) (e ∷ es) = not (joins (Some held) e)

-- whether a row is that of a kept column
abbrev pub is_row : Option Column → List ℕ → Bool
is_row None row = false
is_row (Some c) row = same_bytes c.row row
