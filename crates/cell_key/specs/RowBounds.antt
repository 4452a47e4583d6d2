-- How long the row of a bound may be. All of this is this project's own.
use Rattle.std.specs.Prelude.{ℕ, ◌≤◌, length}
use Rattle.tablet_model.specs.Limits.{max_part}
use Rattle.cell_key.specs.declared.range.Bound.{Bound}
use Rattle.cell_key.specs.declared.range.Bound.TheVariants.{Open, At, Past, Row, PastRow}

-- how many bytes the row of a bound has, where it is a row; a key keeps its own bounds
abbrev pub row_length : Bound → ℕ
row_length Open = 0
row_length (At k) = 0
row_length (Past k) = 0
row_length (Row r) = length r.now
row_length (PastRow r) = length r.now

-- a row in a bound has at most 1,024 bytes (this project's bound)
abbrev pub HasShortRow : Bound → Type 0
HasShortRow b = row_length b ≤ max_part
