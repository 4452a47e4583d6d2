-- One pass over a sorted list that makes each listed column one entry. All of this is this project's own.
use Rattle.std.specs.Prelude.{◌≡◌, ℤ, Bool, true, false, not, ◌&&◌, ◌||◌, cond, List, [], ◌∷◌, Option, Some, None}
use Rattle.std.specs.List.{AllByRecursion}
use Rattle.tablet_model.specs.Cell.{Cell, CellKey, Column, column_of}
use Rattle.tablet_model.specs.Columns.{is_column, with_time}
use Rattle.tablet_model.specs.Reductions.{Reduction}
use Rattle.cell_key.specs.Listed.{is_listed}
use Rattle.cell_key.specs.declared.column_name.ColumnName.{ColumnName}

-- a column whose values are being joined: its newest key, and their join so far
pub record Held : Type 0 where
  pub key : CellKey
  pub value : List ℤ

-- an entry whose value is to be joined to those of the held column
abbrev pub joins : Option Held → Cell → Bool
joins None e = false
joins (Some held) e = not e.key.deleted && is_column (Some (column_of held.key)) (column_of e.key)

-- what is held with the value of an entry
abbrev pub held_with : Reduction → Option Held → Cell → Option Held
held_with r None e = None
held_with r (Some held) e = Some (record { key = held.key; value = r.join held.value (r.value e.value) })

-- what is held after the first entry of a column
abbrev pub held_from : Reduction → Cell → Option Held
held_from r e = Some (record { key = with_time (column_of e.key) e.key.time false; value = r.value e.value })

-- what is held, in front of what follows
abbrev pub with_held : Reduction → Option Held → List Cell → List Cell
with_held r None list = list
with_held r (Some held) list = record { key = held.key; value = r.text held.value } ∷ list

-- an entry that stays as it is: a marker, or of a column that is not listed
abbrev pub stands : List ColumnName → Cell → Bool
stands names e = e.key.deleted || not (is_listed names e.key.family e.key.qualifier)

-- what the pass makes of what is left, where a column may be held
abbrev pub combined_from : List ColumnName → Reduction → Option Held → List Cell → List Cell
combined_from names r held [] = with_held r held []
combined_from names r held (e ∷ es) =
    cond (joins held e) (combined_from names r (held_with r held e) es)
    (with_held r held (cond (stands names e) (e ∷ combined_from names r None es) (combined_from names r (held_from r e) es)))

-- the values that are to be joined are read
abbrev pub AreRead : List ColumnName → Reduction → List Cell → Type 0
AreRead names r list = AllByRecursion (λ e. stands names e ≡ false → r.reads e.value ≡ true) list

-- what is held, if something is: a column, its newest time and the join of its values
abbrev pub held_of : Bool → Option Column → ℤ → Option (List ℤ) → Option Held
held_of false c t v = None
held_of true None t v = None
held_of true (Some c) t None = None
held_of true (Some c) t (Some v) = Some (record { key = with_time c t false; value = v })

-- a column and a join are there, if one is to be held
abbrev pub is_whole : Bool → Option Column → Option (List ℤ) → Bool
is_whole false c v = true
is_whole true None v = false
is_whole true (Some c) None = false
is_whole true (Some c) (Some v) = true

-- a kept column is listed
abbrev pub is_of : List ColumnName → Option Column → Bool
is_of names None = true
is_of names (Some c) = is_listed names c.family c.qualifier

-- the first entry that is left, if there is one, is not to be joined
abbrev pub is_settled : List ColumnName → Option Held → List Cell → Bool
is_settled names held [] = true
is_settled names None (e ∷ es) = stands names e
is_settled names (Some held) (e ∷ es) = not (joins (Some held) e)
