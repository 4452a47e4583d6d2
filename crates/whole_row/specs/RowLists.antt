-- Which lists are the entries of a row. The bounds are this project's own.
use Rattle.std.specs.Prelude.{◌≡◌, ℕ, ◌^◌, ◌<◌, ◌≤◌, false, List, length}
use Rattle.std.specs.List.{AllByRecursion}
use Rattle.tablet_model.specs.Cell.{Cell}
use Rattle.tablet_model.specs.Bounds.{IsEntry}
use Rattle.tablet_model.specs.Order.{above}
use Rattle.tablet_model.specs.Sorted.{Ascends}

-- an entry of a row that is no marker, with its key within bounds and a value whose length is a number of 64 bits
pub record IsRowEntry (row : List ℕ) (e : Cell) : Type 0 where
  pub of_row : e.key.row ≡ row
  pub live : e.key.deleted ≡ false
  pub in_bounds : IsEntry e
  pub short : length e.value < 2 ^ 64

-- the entries of a row: one at least, as many as a number of 64 bits counts, and in order
pub record IsRow (row : List ℕ) (list : List Cell) : Type 0 where
  pub some : 1 ≤ length list
  pub few : length list < 2 ^ 64
  pub ascends : Ascends above list
  pub entries : AllByRecursion (IsRowEntry row) list

-- no entry is a marker
abbrev pub AreLive : List Cell → Type 0
AreLive list = AllByRecursion (λ e. e.key.deleted ≡ false) list
