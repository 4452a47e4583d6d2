-- The entries and the columns of the tests.
use Rattle.std.specs.Prelude.{ℕ, ℤ, pos, Bool, true, false, List, [], ◌∷◌, Some, None, codes}
use Rattle.tablet_model.specs.Cell.{Cell}
use Rattle.number_values.specs.declared.op.Op.{Op}
use Rattle.number_values.specs.declared.op.Encoding.TheVariants as encoding
use Rattle.number_values.specs.Numbers.{number_reduction}
use Rattle.number_values.specs.Arrays.{array_reduction}
use Rattle.combiners.specs.Gathers.{AreRead}
use Rattle.cell_key.specs.declared.column_name.ColumnName.{ColumnName}

-- the entry of a row of a table
abbrev pub row_cell : List ℕ → List ℕ → List ℕ → List ℕ → ℤ → Bool → List ℕ → Cell
row_cell row family qualifier visibility time deleted value = record {
  key = record { row = row; family = family; qualifier = qualifier; visibility = visibility; time = time; deleted = deleted };
  value = value;
}

-- an entry of no visibility
abbrev pub example : List ℕ → List ℕ → List ℕ → ℤ → Bool → List ℕ → Cell
example row family qualifier time deleted value = row_cell row family qualifier [] time deleted value

-- all of the family s, and the qualifier q of the family t
abbrev pub example_names : List ColumnName
example_names = record { family = codes "s"; qualifier = None } ∷ record { family = codes "t"; qualifier = Some (codes "q") } ∷ []

-- entries of six columns, in order
abbrev pub example_cells : List Cell
example_cells =
    example (codes "1") (codes "a") (codes "x") (pos 9) false (codes "1")
    ∷ example (codes "1") (codes "s") (codes "x") (pos 9) false (codes "1")
    ∷ example (codes "1") (codes "s") (codes "x") (pos 7) false (codes "20")
    ∷ example (codes "1") (codes "s") (codes "x") (pos 5) false (codes "300")
    ∷ example (codes "1") (codes "s") (codes "x") (pos 4) true []
    ∷ example (codes "1") (codes "t") (codes "p") (pos 8) false (codes "007")
    ∷ example (codes "1") (codes "t") (codes "q") (pos 8) false (codes "9223372036854775807")
    ∷ example (codes "1") (codes "t") (codes "q") (pos 6) false (codes "007")
    ∷ example (codes "2") (codes "s") (codes "y") (pos 3) false (codes "007")
    ∷ []

-- the values in the listed columns are decimal numbers of the operation
unfoldable pub AreNumbers : Op → List ColumnName → List Cell → Type 0
AreNumbers o names cells = AreRead names (number_reduction o encoding.String) cells

-- entries of one column, in order
abbrev pub example_arrays : List Cell
example_arrays =
    example (codes "1") (codes "s") (codes "x") (pos 9) false (codes "4,6,5")
    ∷ example (codes "1") (codes "s") (codes "x") (pos 7) false (codes "1")
    ∷ example (codes "1") (codes "s") (codes "x") (pos 5) false (codes "0,0,0,7")
    ∷ []

-- the values in the listed columns are decimal arrays
unfoldable pub AreArrays : List ColumnName → List Cell → Type 0
AreArrays names cells = AreRead names (array_reduction encoding.String) cells

-- entries of two columns, in order
abbrev pub example_flags : List Cell
example_flags =
    example (codes "1") (codes "s") (codes "x") (pos 9) false (codes "0")
    ∷ example (codes "1") (codes "s") (codes "x") (pos 7) false (codes "1")
    ∷ example (codes "1") (codes "s") (codes "x") (pos 5) false (codes "0")
    ∷ example (codes "2") (codes "s") (codes "x") (pos 3) false (codes "0")
    ∷ []
