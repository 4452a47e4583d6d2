-- A column that a cursor keeps, or none yet. This project's own.
use Rattle.std.specs.Prelude.{ℤ, Bool, false, Option, Some, None, option_map}
use Rattle.std.specs.Ordering.{eq_by_cmp}
use Rattle.tablet_model.specs.Cell.{CellKey, Column}
use Rattle.tablet_model.specs.Order.{column_cmp}

-- whether this column is kept
abbrev pub is_column : Option Column → Column → Bool
is_column None d = false
is_column (Some c) d = eq_by_cmp column_cmp c d

-- a column with a time and a flag
abbrev pub with_time : Column → ℤ → Bool → CellKey
with_time c time deleted = record { row = c.row; family = c.family; qualifier = c.qualifier; visibility = c.visibility; time = time; deleted = deleted }

-- the kept column with a time and a flag
abbrev pub key_at : Option Column → ℤ → Bool → Option CellKey
key_at c time deleted = option_map (λ c. with_time c time deleted) c
