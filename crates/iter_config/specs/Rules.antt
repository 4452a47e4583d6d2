-- The rules between two iterators, of which the first runs before the second. All of this is this project's own.
use Rattle.std.specs.Prelude.{ℕ, ◌+◌, Bool, true, false, not, ◌&&◌, ◌||◌, ◌==◌, if◌then◌else◌, List, [], ◌∷◌, ◌++◌, length, position, unwrap_or, Option, Some, None}
use Rattle.std.specs.List.{list_any}
use Rattle.std.specs.Str.{bytes_eq}
use Rattle.cell_key.specs.declared.column_name.ColumnName.{ColumnName}
use Rattle.iter_config.specs.Predicates.{is_of_column}
use Rattle.iter_config.specs.declared.error.Rule.{Rule}
use Rattle.iter_config.specs.declared.error.Rule.TheVariants.{Toml, Field, Name, Priority, NoScan, NotPrefix, ScanOnly, Order, Overlap, FullUnderVersions}
use Rattle.iter_config.specs.declared.iter_spec.Deletes.{Deletes}
use Rattle.iter_config.specs.declared.iter_spec.Deletes.TheVariants as deletes
use Rattle.iter_config.specs.declared.iter_spec.IterSpec.{IterSpec}
use Rattle.iter_config.specs.declared.iter_spec.Kind.{Kind}
use Rattle.iter_config.specs.declared.iter_spec.Kind.TheVariants.{Filter, Versions, Combine, WholeRow, Intersecting}
use Rattle.iter_config.specs.declared.iter_spec.Scopes.{Scopes}

-- two iterators have one name
abbrev pub same_name : IterSpec → IterSpec → Bool
same_name s t = bytes_eq s.name t.name

-- two iterators have one priority
abbrev pub same_priority : IterSpec → IterSpec → Bool
same_priority s t = s.priority == t.priority

-- the second scopes have a compaction's that the first lack
abbrev pub scopes_gap : Scopes → Scopes → Bool
scopes_gap s t = (t.minc && not s.minc) || (t.majc && not s.majc)

-- the second runs in compactions in which the first doesn't
abbrev pub leaves_gap : IterSpec → IterSpec → Bool
leaves_gap s t = scopes_gap s.scopes t.scopes

-- an iterator runs in compactions
abbrev pub in_base : IterSpec → Bool
in_base s = s.scopes.minc || s.scopes.majc

-- a filter whose test looks at more than the column
abbrev pub is_cell_filter : Kind → Bool
is_cell_filter (Filter predicate negate) = not (is_of_column predicate)
is_cell_filter (Versions max) = false
is_cell_filter (Combine op columns encoding deletes) = false
is_cell_filter WholeRow = false
is_cell_filter (Intersecting terms without) = false

-- an iterator that counts versions
abbrev pub is_versions : Kind → Bool
is_versions (Filter predicate negate) = false
is_versions (Versions max) = true
is_versions (Combine op columns encoding deletes) = false
is_versions WholeRow = false
is_versions (Intersecting terms without) = false

-- a combiner
abbrev pub is_combiner : Kind → Bool
is_combiner (Filter predicate negate) = false
is_combiner (Versions max) = false
is_combiner (Combine op columns encoding deletes) = true
is_combiner WholeRow = false
is_combiner (Intersecting terms without) = false

-- what runs in scans alone: it shows entries that stand for rows or documents
abbrev pub is_scan_only : Kind → Bool
is_scan_only (Filter predicate negate) = false
is_scan_only (Versions max) = false
is_scan_only (Combine op columns encoding deletes) = false
is_scan_only WholeRow = true
is_scan_only (Intersecting terms without) = true

-- it runs in compactions, but is for scans alone
abbrev pub leaves_scans : IterSpec → Bool
leaves_scans s = is_scan_only s.kind && in_base s

-- the second combines what stands for rows or documents
abbrev pub combines_behind : IterSpec → IterSpec → Bool
combines_behind s t = is_scan_only s.kind && is_combiner t.kind

-- what may not follow in compactions: behind versions anything but a filter of columns; a cell filter and a combiner beside each other
abbrev pub is_disordered : Kind → Kind → Bool
is_disordered k l =
    (is_versions k && (is_versions l || is_combiner l || is_cell_filter l))
    || (is_cell_filter k && is_combiner l) || (is_combiner k && is_cell_filter l)

-- the second runs in compactions, where it may not follow the first
abbrev pub out_of_order : IterSpec → IterSpec → Bool
out_of_order s t = in_base t && is_disordered s.kind t.kind

-- the columns that a combiner lists
abbrev pub listed_columns : Kind → List ColumnName
listed_columns (Filter predicate negate) = []
listed_columns (Versions max) = []
listed_columns (Combine op columns encoding deletes) = columns
listed_columns WholeRow = []
listed_columns (Intersecting terms without) = []

-- two parts of names may be of one column: a missing one is each qualifier
abbrev pub qualifiers_meet : Option (List ℕ) → Option (List ℕ) → Bool
qualifiers_meet None q = true
qualifiers_meet (Some p) None = true
qualifiers_meet (Some p) (Some q) = bytes_eq p q

-- two names have a column in common
abbrev pub names_meet : ColumnName → ColumnName → Bool
names_meet n m = bytes_eq n.family m.family && qualifiers_meet n.qualifier m.qualifier

-- two iterators combine one column
abbrev pub shares_column : IterSpec → IterSpec → Bool
shares_column s t = list_any (λ n. list_any (names_meet n) (listed_columns t.kind)) (listed_columns s.kind)

-- columns may have deletes
abbrev pub is_of_deletes : Deletes → Bool
is_of_deletes deletes.None = false
is_of_deletes deletes.Full = true

-- a combiner whose columns may have deletes
abbrev pub is_full_combiner : Kind → Bool
is_full_combiner (Filter predicate negate) = false
is_full_combiner (Versions max) = false
is_full_combiner (Combine op columns encoding deletes) = is_of_deletes deletes
is_full_combiner WholeRow = false
is_full_combiner (Intersecting terms without) = false

-- in major compactions the second counts versions behind a combiner of columns with deletes
abbrev pub is_full_under_versions : IterSpec → IterSpec → Bool
is_full_under_versions s t = (t.scopes.majc && is_versions t.kind) && (s.scopes.majc && is_full_combiner s.kind)

-- two iterators break a rule between two
abbrev pub clashes : Rule → IterSpec → IterSpec → Bool
clashes Toml s t = false
clashes Field s t = false
clashes Name s t = same_name s t
clashes Priority s t = same_priority s t
clashes NoScan s t = false
clashes NotPrefix s t = false
clashes ScanOnly s t = false
clashes Order s t = out_of_order s t
clashes Overlap s t = shares_column s t
clashes FullUnderVersions s t = is_full_under_versions s t

-- the number of the first iterator that breaks a rule with one before it, where the number comes of what stands before it and of itself
abbrev pub first_clash : (List IterSpec → IterSpec → ℕ) → (IterSpec → IterSpec → Bool) → List IterSpec → List IterSpec → Option ℕ
first_clash number clash before [] = None
first_clash number clash before (s ∷ ss) =
    if list_any (λ t. clash t s) before then Some (number before s) else first_clash number clash (before ++ s ∷ []) ss

-- the number of an iterator of a document: its place in the array, from 1
abbrev pub own_number : List IterSpec → IterSpec → ℕ
own_number before s = length before + 1

-- the number of an iterator whose document has these priorities
abbrev pub number_by : List ℕ → IterSpec → ℕ
number_by priorities s = unwrap_or (position (λ p. p == s.priority) priorities) 0 + 1

-- the number of the first iterator of a document that breaks a rule with one before it
abbrev pub first_repeat : Rule → List IterSpec → Option ℕ
first_repeat rule specs = first_clash own_number (clashes rule) [] specs

-- that of the first one in priority order
abbrev pub first_breaking : Rule → List ℕ → List IterSpec → Option ℕ
first_breaking rule priorities specs = first_clash (λ before s. number_by priorities s) (clashes rule) [] specs

-- the number of the first iterator in priority order that doesn't run in scans
abbrev pub first_unscanned : List ℕ → List IterSpec → Option ℕ
first_unscanned priorities [] = None
first_unscanned priorities (s ∷ ss) = if s.scopes.scan then first_unscanned priorities ss else Some (number_by priorities s)

-- each scope: the first iterator leaves no gap
abbrev pub all_scopes : Scopes
all_scopes = record { scan = true; minc = true; majc = true }

-- the number of the first iterator that has a compaction's scope which the one just before it lacks; the one before these has the scopes `before`
abbrev pub first_gap : List ℕ → Scopes → List IterSpec → Option ℕ
first_gap priorities before [] = None
first_gap priorities before (s ∷ ss) = if scopes_gap before s.scopes then Some (number_by priorities s) else first_gap priorities s.scopes ss

-- the number of the first iterator in priority order that leaves scans, or that is a combiner behind one for scans alone; `alone` says whether
-- one for scans alone stands before these
abbrev pub first_beyond_scans : List ℕ → Bool → List IterSpec → Option ℕ
first_beyond_scans priorities alone [] = None
first_beyond_scans priorities alone (s ∷ ss) =
    if leaves_scans s || (alone && is_combiner s.kind) then Some (number_by priorities s)
    else first_beyond_scans priorities (alone || is_scan_only s.kind) ss
