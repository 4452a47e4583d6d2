-- What a provider gives. All of this is this project's own.
use Rattle.std.specs.Prelude.{◌≡◌, ℕ, ◌<◌, List}
use Rattle.tablet_model.specs.Cell.{Cell}

-- a stack was given with a version and a number of mutations: those last looked at, of which the version is above the one that was asked for
pub record IsGiven (than version n : ℕ) (given : List Cell) (given_version given_n : ℕ) (cells : List Cell) (valid : Type 0) : Type 0 where
  pub newer : than < version
  pub same_version : given_version ≡ version
  pub same_n : given_n ≡ n
  pub same_cells : cells ≡ given
  pub is_valid : valid
