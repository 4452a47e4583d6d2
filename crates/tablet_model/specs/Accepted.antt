-- Which lists of stages are accepted for compactions. All of this is this project's own rule.
use Rattle.std.specs.Prelude.{◌≡◌, ◌<◌, Bool, true, false, List, [], ◌∷◌, ⊤}
use Rattle.std.specs.List.{AllByRecursion}
use Rattle.tablet_model.specs.Cell.{Cell}
use Rattle.tablet_model.specs.Order.{same_column}
use Rattle.tablet_model.specs.Reductions.{IsLawful}
use Rattle.tablet_model.specs.Stages.{Stage, by_column, by_cell, newest, combine, rows, intersect}

-- a test that looks at the column alone
abbrev pub IsOfColumns : (Cell → Bool) → Type 0
IsOfColumns listed = (c e : Cell) → same_column c e ≡ true → listed e ≡ listed c

-- a stage is what it says: its test of columns looks at columns, it keeps at least one version, its reduction is lawful; whole rows
-- and intersections run in scans alone
abbrev pub IsWellMade : Stage → Type 0
IsWellMade (by_column p) = IsOfColumns p
IsWellMade (by_cell p) = ⊤
IsWellMade (newest n) = 0 < n
IsWellMade (combine listed r full) = IsOfColumns listed × IsLawful r
IsWellMade rows = ⊥
IsWellMade (intersect terms without) = ⊥

-- it shows entries under their own keys, and none that stands for a row or a document
abbrev pub KeepsKeys : Stage → Type 0
KeepsKeys (by_column p) = ⊤
KeepsKeys (by_cell p) = ⊤
KeepsKeys (newest n) = ⊤
KeepsKeys (combine listed r full) = ⊤
KeepsKeys rows = ⊥
KeepsKeys (intersect terms without) = ⊥

-- a filter by column
abbrev pub IsColumnFilter : Stage → Type 0
IsColumnFilter (by_column p) = ⊤
IsColumnFilter (by_cell p) = ⊥
IsColumnFilter (newest n) = ⊥
IsColumnFilter (combine listed r full) = ⊥
IsColumnFilter rows = ⊥
IsColumnFilter (intersect terms without) = ⊥

-- any stage but a combiner
abbrev pub IsNoCombiner : Stage → Type 0
IsNoCombiner (by_column p) = ⊤
IsNoCombiner (by_cell p) = ⊤
IsNoCombiner (newest n) = ⊤
IsNoCombiner (combine listed r full) = ⊥
IsNoCombiner rows = ⊤
IsNoCombiner (intersect terms without) = ⊤

-- no cell filter, and no combiner of the same columns
abbrev pub IsBeside : (Cell → Bool) → Stage → Type 0
IsBeside listed (by_column p) = ⊤
IsBeside listed (by_cell p) = ⊥
IsBeside listed (newest n) = ⊤
IsBeside listed (combine others r full) = (e : Cell) → listed e ≡ true → others e ≡ false
IsBeside listed rows = ⊤
IsBeside listed (intersect terms without) = ⊤

-- what may follow a stage
abbrev pub MayFollow : Stage → List Stage → Type 0
MayFollow (by_column p) ss = ⊤
MayFollow (by_cell p) ss = AllByRecursion IsNoCombiner ss
MayFollow (newest n) ss = AllByRecursion IsColumnFilter ss
MayFollow (combine listed r full) ss = AllByRecursion (IsBeside listed) ss
MayFollow rows ss = AllByRecursion IsNoCombiner ss
MayFollow (intersect terms without) ss = AllByRecursion IsNoCombiner ss

-- at most one `newest`, then column filters alone; no cell filter beside a combiner; no column in two combiners
abbrev pub AreAccepted : List Stage → Type 0
AreAccepted [] = ⊤
AreAccepted (s ∷ ss) = IsWellMade s × (MayFollow s ss × AreAccepted ss)

-- a combiner of columns that may have markers
abbrev pub is_full : Stage → Bool
is_full (by_column p) = false
is_full (by_cell p) = false
is_full (newest n) = false
is_full (combine listed r full) = full
is_full rows = false
is_full (intersect terms without) = false

-- any stage but `newest`
abbrev pub IsNotNewest : Stage → Type 0
IsNotNewest (by_column p) = ⊤
IsNotNewest (by_cell p) = ⊤
IsNotNewest (newest n) = ⊥
IsNotNewest (combine listed r full) = ⊤
IsNotNewest rows = ⊤
IsNotNewest (intersect terms without) = ⊤

-- no combiner that refuses markers lists the column of e
abbrev pub IsDeletable : Cell → Stage → Type 0
IsDeletable e (by_column p) = ⊤
IsDeletable e (by_cell p) = ⊤
IsDeletable e (newest n) = ⊤
IsDeletable e (combine listed r full) = full ≡ false → listed e ≡ false
IsDeletable e rows = ⊤
IsDeletable e (intersect terms without) = ⊤

-- each marker stands in a column that may have one
abbrev pub AreDeletable : List Stage → List Cell → Type 0
AreDeletable ss list = AllByRecursion (λ e. e.key.deleted ≡ true → AllByRecursion (IsDeletable e) ss) list
