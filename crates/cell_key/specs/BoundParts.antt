-- A kept bound, as a cut. All of this is this project's own.
use Rattle.std.specs.Prelude.{ℕ, ℤ, ◌≤◌, Bool, List, Option, Some, None, IsSome, length, vec_capacity, ⊤}
use Rattle.tablet_model.specs.Limits.{max_part}
use Rattle.tablet_model.specs.Cell.{Column, CellKey}
use Rattle.tablet_model.specs.Columns.{with_time}
use Rattle.tablet_model.specs.Cuts.{Cut, Everything, Before, Behind, BeforeRow, BehindRow}
use Rattle.cell_key.specs.declared.range_buf.CutKind.{CutKind}
use Rattle.cell_key.specs.declared.range_buf.CutKind.TheVariants.{Open, At, Past, Row, PastRow}
use Rattle.cell_key.specs.declared.range_buf.BoundBuf.TheInside.{Inside}

-- a cut at the key of a kept column
abbrev pub cut_at : Option Column → ℤ → Bool → (CellKey → Cut) → Cut
cut_at None time deleted cut = Everything
cut_at (Some c) time deleted cut = cut (with_time c time deleted)

-- the cut of a kind, from a kept key and a kept row
abbrev pub cut_by : CutKind → Option Column → List ℕ → ℤ → Bool → Cut
cut_by Open column row time deleted = Everything
cut_by At column row time deleted = cut_at column time deleted (λ k. Before k)
cut_by Past column row time deleted = cut_at column time deleted (λ k. Behind k)
cut_by Row column row time deleted = BeforeRow row
cut_by PastRow column row time deleted = BehindRow row

-- the cut that is kept
abbrev pub kept_cut : Inside → Cut
kept_cut b = cut_by b.kind b.column b.row.items b.time b.deleted

-- a bound at a key has a column
abbrev pub HasColumn : CutKind → Option Column → Type 0
HasColumn At column = IsSome column
HasColumn Past column = IsSome column
HasColumn _ column = ⊤

-- there is room for the longest row, and the kept parts are as the kind needs
abbrev pub IsBoundReserved : Inside → Type 0
IsBoundReserved b = (max_part ≤ vec_capacity b.row) × (length b.row.items ≤ max_part) × HasColumn b.kind b.column
