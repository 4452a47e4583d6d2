-- The sum of the numbers among some entries. All of this is this project's own.
use Rattle.std.specs.Prelude.{ℕ, ℤ, pos, if◌then◌else◌, List, Option, Some, codes, sum_by}
use Rattle.std.specs.Str.{bytes_eq}
use Rattle.tablet_model.specs.Cell.{Cell}
use Rattle.number_values.specs.Numbers.{decimal_in}

-- a number from 0 up; what is none counts as 0, but a sum has no such values
abbrev pub amount_of : Option ℤ → ℕ
amount_of (Some (pos n)) = n
amount_of _ = 0

-- what an entry adds: its number, where it is of family `n`
abbrev pub amount_in : Cell → ℕ
amount_in e = if bytes_eq e.key.family (codes "n") then amount_of (decimal_in e.value) else 0

-- the sum over some entries
abbrev pub total_of : List Cell → ℕ
total_of cells = sum_by amount_in cells
