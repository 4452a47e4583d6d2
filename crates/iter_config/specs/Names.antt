-- Escaped names, and the names of columns. The fields are this project's own; a column is named as Accumulo's combiners name it.
use Rattle.std.specs.Prelude.{ℕ, ◌+◌, ◌&&◌, ◌==◌, nat_le, if◌then◌else◌, List, [], ◌∷◌, length, take, drop, position, Option, Some, None}
use Rattle.std.specs.Result.{result_ok}
use Rattle.tablet_model.specs.Limits.{max_names, max_part}
use Rattle.cell_key.specs.Escape.{unescape_of}
use Rattle.cell_key.specs.declared.column_name.ColumnName.{ColumnName}
use Rattle.toml.specs.Data.{Data, Items, no_items, item, as_array, as_str}
use Rattle.iter_config.specs.Faults.{◌>>=◌}

-- the name that a text spells, of at most 1,024 bytes
abbrev pub name_of : List ℕ → Option (List ℕ)
name_of text = do
  bytes ← result_ok (unescape_of text)
  if nat_le (length bytes) max_part then Some bytes else None

-- the name that a field spells
abbrev pub spelled_in : Data → Option (List ℕ)
spelled_in d = as_str d >>= name_of

-- the names of an array
abbrev pub names_of : Items → Option (List (List ℕ))
names_of no_items = Some []
names_of (item d ds) = do
  name ← spelled_in d
  names ← names_of ds
  Some (name ∷ names)

-- 1 to 64 names
abbrev pub names_in : Data → Option (List (List ℕ))
names_in d = do
  ds ← as_array d
  names ← names_of ds
  if nat_le 1 (length names) && nat_le (length names) max_names then Some names else None

-- the families whose puts bring times of their own, which are none where nothing stands there
abbrev pub timed_or_none : Option Data → Option (List (List ℕ))
timed_or_none None = Some []
timed_or_none (Some d) = names_in d

-- names, as many as there are
abbrev pub listed_in : Data → Option (List (List ℕ))
listed_in d = as_array d >>= names_of

-- names, or none where nothing stands there
abbrev pub listed_or_none : Option Data → Option (List (List ℕ))
listed_or_none None = Some []
listed_or_none (Some d) = listed_in d

-- a name, if anything stands there
abbrev pub name_or_none : Option Data → Option (Option (List ℕ))
name_or_none None = Some None
name_or_none (Some d) = do
  name ← spelled_in d
  Some (Some name)

-- a name of columns that is cut at this place, or is a family
unfoldable pub column_at : Option ℕ → List ℕ → Option ColumnName
column_at None text = do
  family ← name_of text
  Some (record { family = family; qualifier = None })
column_at (Some k) text = do
  family ← name_of (take k text)
  qualifier ← name_of (drop (k + 1) text)
  Some (record { family = family; qualifier = Some qualifier })

-- the name of columns that a text is: a family, or a family and a qualifier behind the first colon (58)
abbrev pub column_of : List ℕ → Option ColumnName
column_of text = column_at (position (λ b. b == 58) text) text

-- the names of columns of an array
abbrev pub columns_of : Items → Option (List ColumnName)
columns_of no_items = Some []
columns_of (item d ds) = do
  text ← as_str d
  column ← column_of text
  columns ← columns_of ds
  Some (column ∷ columns)

-- 1 to 64 names of columns
abbrev pub columns_in : Data → Option (List ColumnName)
columns_in d = do
  ds ← as_array d
  columns ← columns_of ds
  if nat_le 1 (length columns) && nat_le (length columns) max_names then Some columns else None
