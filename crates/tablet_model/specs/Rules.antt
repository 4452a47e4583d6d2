-- What a configuration asks of a store. All of this is this project's own.
use Rattle.std.specs.Prelude.{◌≡◌, ◌≤◌, ℤ, Bool, true, false, List, [], ◌++◌, length, ⊤}
use Rattle.std.specs.List.{AllByRecursion, list_any}
use Rattle.tablet_model.specs.Limits.{max_value}
use Rattle.tablet_model.specs.Cell.{Cell}
use Rattle.tablet_model.specs.Bounds.{KeyBounds}
use Rattle.tablet_model.specs.Stages.{Stage, by_column, by_cell, newest, combine, rows, intersect, stages}
use Rattle.tablet_model.specs.Accepted.{IsOfColumns, AreAccepted, IsDeletable, is_full, IsNotNewest}
use Rattle.tablet_model.specs.Reading.{IsReadBy}

-- the stages of compactions, of which minor and major ones each run a prefix; the combiners that scans alone run, and all that a scan
-- runs behind the stages of compactions; the columns whose times the tablet gives; and the columns that take deletes
pub record Rules : Type 0 where
  pub base : List Stage
  pub minor : List Stage
  pub major : List Stage
  pub scan_combiners : List Stage
  pub scan_rest : List Cell → List Cell
  pub plain : Cell → Bool
  pub may_delete : Cell → Bool

-- all that a scan runs, the stages of compactions nearest the data
abbrev pub scan_stack : Rules → List Cell → List Cell
scan_stack c list = c.scan_rest (stages c.base list)

-- two stages are no combiners of one column
abbrev pub IsApartFrom : Stage → Stage → Type 0
IsApartFrom (by_column p) t = ⊤
IsApartFrom (by_cell p) t = ⊤
IsApartFrom (newest n) t = ⊤
IsApartFrom (combine listed r full) (by_column p) = ⊤
IsApartFrom (combine listed r full) (by_cell p) = ⊤
IsApartFrom (combine listed r full) (newest n) = ⊤
IsApartFrom (combine listed r full) (combine others q f) = (e : Cell) → listed e ≡ true → others e ≡ false
IsApartFrom (combine listed r full) rows = ⊤
IsApartFrom (combine listed r full) (intersect terms without) = ⊤
IsApartFrom rows t = ⊤
IsApartFrom (intersect terms without) t = ⊤

-- a combiner writes values that a put may have
abbrev pub IsShort : Stage → Type 0
IsShort (by_column p) = ⊤
IsShort (by_cell p) = ⊤
IsShort (newest n) = ⊤
IsShort (combine listed r full) = (v : List ℤ) → r.is_value v ≡ true → length (r.text v) ≤ max_value
IsShort rows = ⊤
IsShort (intersect terms without) = ⊤

-- a list begins with another
abbrev pub StandsFirst : List Stage → List Stage → Type 0
StandsFirst ps ss = (qs : List Stage) × (ps ++ qs ≡ ss)

-- what an accepted configuration keeps: its stages are accepted; minor and major ones are prefixes; no `newest` in major compactions that
-- have a combiner of columns with markers; and columns that take deletes have the tablet's times and no combiner that refuses markers
pub record AreSound (c : Rules) : Type 0 where
  pub accepted : AreAccepted c.base
  pub short : AllByRecursion IsShort c.base
  pub apart : AllByRecursion (λ s. AllByRecursion (IsApartFrom s) c.scan_combiners) c.base
  pub minor_first : StandsFirst c.minor c.base
  pub major_first : StandsFirst c.major c.base
  pub not_newest : list_any is_full c.major ≡ true → AllByRecursion IsNotNewest c.major
  pub plain_columns : IsOfColumns c.plain
  pub delete_columns : IsOfColumns c.may_delete
  pub plain_deletes : (e : Cell) → c.may_delete e ≡ true → c.plain e ≡ true
  pub deletable : (e : Cell) → c.may_delete e ≡ true → AllByRecursion (IsDeletable e) c.major

-- an entry that the checks of mutations let in, and that compactions may leave
pub record IsStorable (c : Rules) (e : Cell) : Type 0 where
  pub bounds : KeyBounds e.key.row e.key.family e.key.qualifier e.key.visibility
  pub short : length e.value ≤ max_value
  pub no_value : e.key.deleted ≡ true → e.value ≡ []
  pub may_delete : e.key.deleted ≡ true → c.may_delete e ≡ true
  pub reads : e.key.deleted ≡ false → AllByRecursion (IsReadBy e) c.base
  pub reads_scan : e.key.deleted ≡ false → AllByRecursion (IsReadBy e) c.scan_combiners

-- each entry of a list may be in a store
abbrev pub AreStorable : Rules → List Cell → Type 0
AreStorable c list = AllByRecursion (IsStorable c) list
