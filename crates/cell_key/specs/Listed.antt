-- Which columns a combiner combines (Accumulo): those of its families, or of its families and qualifiers.
use Rattle.std.specs.Prelude.{ℕ, Bool, true, ◌&&◌, List, Option, Some, None, nat_eq}
use Rattle.std.proofs.Common.{sym, ap}
use Rattle.std.specs.List.{list_any}
use Rattle.std.specs.Cmp.Lexicographic.{pointwise}
use Rattle.tablet_model.specs.Cell.{Cell, column_of}
use Rattle.tablet_model.specs.Accepted.{IsOfColumns}
use Rattle.tablet_model.proofs.OneColumn.{columns_tie}
use Rattle.tablet_model.proofs.Orders.{exact_columns}
use Rattle.cell_key.specs.declared.column_name.ColumnName.{ColumnName}

-- any qualifier, or this one
abbrev pub has_qualifier : Option (List ℕ) → List ℕ → Bool
has_qualifier None qualifier = true
has_qualifier (Some own) qualifier = pointwise nat_eq own qualifier

-- whether a name is that of the columns of a family and a qualifier
abbrev pub is_named : List ℕ → List ℕ → ColumnName → Bool
is_named family qualifier name = has_qualifier name.qualifier qualifier && pointwise nat_eq name.family family

-- whether one of these names is
abbrev pub is_listed : List ColumnName → List ℕ → List ℕ → Bool
is_listed names family qualifier = list_any (is_named family qualifier) names

-- whether an entry's column has one of these names
unfoldable pub column_listed : List ColumnName → Cell → Bool
column_listed names e = is_listed names e.key.family e.key.qualifier

-- this looks at the column alone
pub listed_of_columns : (names : List ColumnName) → IsOfColumns (column_listed names)
unfolding column_listed
listed_of_columns names c e h =
    ap (λ k. is_listed names k.family k.qualifier) (sym (exact_columns (column_of c.key) (column_of e.key) (columns_tie c e h)))
