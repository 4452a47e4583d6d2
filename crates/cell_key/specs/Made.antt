-- How a key is made, and why not. The bounds are this project's own.
use Rattle.std.specs.Prelude.{ℕ, ℤ, Bool, List, length, nat_lt, ◌||◌, ◌==◌, if◌then◌else◌, Option, Some, None}
use Rattle.tablet_model.specs.Limits.{max_part}
use Rattle.tablet_model.specs.Cell.{CellKey}
use Rattle.cell_key.specs.declared.key.Part.{Part}
use Rattle.cell_key.specs.declared.key.Part.TheVariants.{Row, Family, Qualifier, Visibility}
use Rattle.cell_key.specs.declared.key.KeyError.{KeyError}
use Rattle.cell_key.specs.declared.key.KeyError.TheVariants.{Bound, NoMemory}

-- the key of these parts
abbrev pub key_from : List ℕ → List ℕ → List ℕ → List ℕ → ℤ → Bool → CellKey
key_from row family qualifier visibility time deleted = record {
  row = row;
  family = family;
  qualifier = qualifier;
  visibility = visibility;
  time = time;
  deleted = deleted;
}

-- a part has too many bytes
abbrev pub is_long : List ℕ → Bool
is_long part = nat_lt max_part (length part)

-- the first part out of bounds: a row of no bytes, or a long part
abbrev pub first_out : List ℕ → List ℕ → List ℕ → List ℕ → Option Part
first_out row family qualifier visibility =
    if (length row == 0) || is_long row then Some Row
    else (if is_long family then Some Family
    else (if is_long qualifier then Some Qualifier
    else (if is_long visibility then Some Visibility
    else None)))

-- why a key isn't made: the first part out of bounds, else want of memory
abbrev pub refusal_of : Option Part → KeyError
refusal_of None = NoMemory
refusal_of (Some part) = Bound part
