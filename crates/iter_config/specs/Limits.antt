-- The limits of an iterator's fields. All of this is this project's own.
use Rattle.std.specs.Prelude.{◌≡◌, ℕ, ◌+◌, ◌≤◌, true, List, length, All, IfSome, ⊤}
use Rattle.tablet_model.specs.Limits.{max_names, max_part}
use Rattle.cell_key.specs.declared.column_name.ColumnName.{ColumnName}
use Rattle.iter_config.specs.Fields.{is_name}
use Rattle.iter_config.specs.declared.iter_spec.IterSpec.{IterSpec}
use Rattle.iter_config.specs.declared.iter_spec.Kind.{Kind}
use Rattle.iter_config.specs.declared.iter_spec.Kind.TheVariants.{Filter, Versions, Combine, WholeRow, Intersecting}
use Rattle.iter_config.specs.declared.predicate.Predicate.{Predicate}
use Rattle.iter_config.specs.declared.predicate.Predicate.TheVariants.{Family, QualifierSlice, VisibilitySet, Grep, Times}

-- the highest priority
abbrev pub max_priority : ℕ
max_priority = 2147483647

-- a name has at most 1,024 bytes
abbrev pub IsShortName : List ℕ → Type 0
IsShortName name = length name ≤ max_part

-- 1 to 64 names
abbrev pub AreNames : List (List ℕ) → Type 0
AreNames names = (1 ≤ length names) × (length names ≤ max_names) × All IsShortName names

-- the families with times of their own: 64 names at most
abbrev pub AreTimed : List (List ℕ) → Type 0
AreTimed families = (length families ≤ max_names) × All IsShortName families

-- the parts of a name of columns are names
abbrev pub IsShortColumn : ColumnName → Type 0
IsShortColumn column = IsShortName column.family × IfSome column.qualifier IsShortName

-- 1 to 64 names of columns
abbrev pub AreColumns : List ColumnName → Type 0
AreColumns columns = (1 ≤ length columns) × (length columns ≤ max_names) × All IsShortColumn columns

-- 1 term at least, and 16 at most with those that documents are to be without
abbrev pub AreTerms : List (List ℕ) → List (List ℕ) → Type 0
AreTerms terms without = (1 ≤ length terms) × (length terms + length without ≤ 16) × All IsShortName terms × All IsShortName without

-- what a filter tests is within its fields' limits
abbrev pub IsLimitedTest : Predicate → Type 0
IsLimitedTest (Family families) = AreNames families
IsLimitedTest (QualifierSlice from to) = IfSome from IsShortName × IfSome to IsShortName
IsLimitedTest (VisibilitySet visibilities) = AreNames visibilities
IsLimitedTest (Grep needle) = (1 ≤ length needle) × (length needle ≤ max_part)
IsLimitedTest (Times from to) = ⊤

-- what an iterator does is within its fields' limits
abbrev pub IsLimited : Kind → Type 0
IsLimited (Filter predicate negate) = IsLimitedTest predicate
IsLimited (Versions max) = (1 ≤ max) × (max ≤ 1000)
IsLimited (Combine op columns encoding deletes) = AreColumns columns
IsLimited WholeRow = ⊤
IsLimited (Intersecting terms without) = AreTerms terms without

-- the fields of an iterator are within their limits
pub record AreFields (s : IterSpec) : Type 0 where
  pub name : is_name s.name ≡ true
  pub priority : (1 ≤ s.priority) × (s.priority ≤ max_priority)
  pub kind : IsLimited s.kind
