-- Columns, keys and entries as plain values. The parts of a key are those of an Accumulo key; bytes are numbers below 256.
use Rattle.std.specs.Prelude.{ℕ, ℤ, Bool, List}

-- what a delete marker hides, a version counts and a combiner joins by (Accumulo): row, family, qualifier and visibility
pub record Column : Type 0 where
  pub row : List ℕ
  pub family : List ℕ
  pub qualifier : List ℕ
  pub visibility : List ℕ

-- a key (Accumulo): a column, a signed 64-bit timestamp and a deleted flag
pub record CellKey : Type 0 where
  pub row : List ℕ
  pub family : List ℕ
  pub qualifier : List ℕ
  pub visibility : List ℕ
  pub time : ℤ
  pub deleted : Bool

-- an entry (Accumulo): a key and the bytes of its value
pub record Cell : Type 0 where
  pub key : CellKey
  pub value : List ℕ

-- the column of a key
abbrev pub column_of : CellKey → Column
column_of k = record { row = k.row; family = k.family; qualifier = k.qualifier; visibility = k.visibility }
