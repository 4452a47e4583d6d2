-- What new sources and deep copies have. All of this is this project's own.
use Rattle.std.specs.Prelude.{◌≡◌, List, [], Bool}
use Rattle.tablet_model.specs.Cell.{Cell}

-- a source of these entries, as steady, and not sought (this project's rule: a new source's rest is empty)
pub record IsCopy (cells : List Cell) (steady : Bool) (cells' rest' : List Cell) (steady' : Bool) (valid' : Type 0)
    : Type 0 where
  pub same_cells : cells' ≡ cells
  pub unsought : rest' ≡ []
  pub same_steady : steady' ≡ steady
  pub is_valid : valid'
