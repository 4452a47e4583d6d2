-- Which lists have an image that is read. The bounds are this project's own.
use Rattle.std.specs.Prelude.{ℕ, ◌≤◌, Bool, if◌then◌else◌, List, length, Option, None}
use Rattle.std.specs.List.{AllByRecursion, last_or}
use Rattle.tablet_model.specs.Limits.{max_value}
use Rattle.tablet_model.specs.Cell.{Cell}
use Rattle.tablet_model.specs.Bounds.{IsEntry}
use Rattle.tablet_model.specs.Order.{above}
use Rattle.tablet_model.specs.Sorted.{Ascends}

-- the most bytes of a value; a marker's value is empty
abbrev pub longest_value : Bool → ℕ
longest_value deleted = if deleted then 0 else max_value

-- an entry of a file: its key and its value are within bounds
abbrev pub IsFileEntry : Cell → Type 0
IsFileEntry e = IsEntry e × (length e.value ≤ longest_value e.key.deleted)

-- a list that a file may hold: in order, and each entry within bounds
pub record IsFileList (list : List Cell) : Type 0 where
  pub ascends : Ascends above list
  pub entries : AllByRecursion IsFileEntry list

-- the last entry of a list
abbrev pub last_of : List Cell → Option Cell
last_of list = last_or None list
