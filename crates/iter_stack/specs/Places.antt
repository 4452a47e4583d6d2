-- What the iterators of a configuration make of a list, one after another. All of this is this project's own.
use Rattle.std.specs.Prelude.{◌≡◌, ◌≤◌, ℕ, ◌+◌, Bool, true, false, cond, List, length, Option, Some, None, slice_get, ⊤}
use Rattle.tablet_model.specs.Cell.{Cell}
use Rattle.tablet_model.specs.Markers.{live, mark}
use Rattle.tablet_model.specs.Stages.{stage}
use Rattle.number_values.specs.Values.{reduction_of}
use Rattle.iter_config.specs.Stages.{stage_of}
use Rattle.iter_config.specs.declared.iter_spec.IterSpec.{IterSpec}
use Rattle.iter_config.specs.declared.iter_spec.Kind.{Kind}
use Rattle.iter_config.specs.declared.iter_spec.Kind.TheVariants.{Filter, Versions, Combine, WholeRow, Intersecting}
use Rattle.whole_row.specs.RowLists.{AreLive}
use Rattle.iter_stack.specs.LevelStages.{AreCombinable}
use Rattle.iter_stack.specs.Usages.{runs_in, takes_memory}
use Rattle.iter_stack.specs.declared.usage.Usage.{Usage}
use Rattle.iter_stack.specs.declared.usage.Usage.TheVariants.{Scan, Minc, MajcPart, MajcFull, Pack}

-- what deletes leave of a leaf's entries
abbrev pub bottom_cells : Usage → List Cell → List Cell
bottom_cells Scan list = live list
bottom_cells Minc list = mark list
bottom_cells MajcPart list = mark list
bottom_cells MajcFull list = live list
bottom_cells Pack list = live list

-- what a kind of iterator asks of its list
abbrev pub KindTakes : Kind → List Cell → Type 0
KindTakes (Filter predicate negate) list = ⊤
KindTakes (Versions max) list = ⊤
KindTakes (Combine op columns encoding deletes) list = AreCombinable columns (reduction_of op encoding) list
KindTakes WholeRow list = AreLive list
KindTakes (Intersecting terms without) list = 1 ≤ length terms

-- how many sources it has: an intersection one for each term, others any
abbrev pub KindCounts : Kind → ℕ → Type 0
KindCounts (Filter predicate negate) count = ⊤
KindCounts (Versions max) count = ⊤
KindCounts (Combine op columns encoding deletes) count = ⊤
KindCounts WholeRow count = ⊤
KindCounts (Intersecting terms without) count = count ≡ length terms + length without

-- whether it is steady, where `source` says whether its source is
abbrev pub kind_steady : Kind → Bool → Bool
kind_steady kind source = cond (takes_memory kind) false source

-- what an iterator makes of a list, if it runs
abbrev pub made_by : Usage → IterSpec → List Cell → List Cell
made_by usage s list = cond (runs_in usage s) (stage (stage_of s.kind) list) list

-- whether it is steady over its source, if it runs
abbrev pub steady_by : Usage → IterSpec → Bool → Bool
steady_by usage s source = cond (runs_in usage s) (kind_steady s.kind source) source

-- it takes a list, if it runs
abbrev pub TakesBy : Usage → IterSpec → List Cell → Type 0
TakesBy usage s list = runs_in usage s ≡ true → KindTakes s.kind list

-- how many sources it has, if it runs
abbrev pub CountsBy : Usage → IterSpec → ℕ → Type 0
CountsBy usage s count = runs_in usage s ≡ true → KindCounts s.kind count

-- what the iterator of a place makes, if there is one
abbrev pub made_at : Usage → Option IterSpec → List Cell → List Cell
made_at usage None list = list
made_at usage (Some s) list = made_by usage s list

-- whether it is steady over its source
abbrev pub steady_at : Usage → Option IterSpec → Bool → Bool
steady_at usage None source = source
steady_at usage (Some s) source = steady_by usage s source

-- it takes a list
abbrev pub TakesAt : Usage → Option IterSpec → List Cell → Type 0
TakesAt usage None list = ⊤
TakesAt usage (Some s) list = TakesBy usage s list

-- how many sources it has
abbrev pub CountsAt : Usage → Option IterSpec → ℕ → Type 0
CountsAt usage None count = ⊤
CountsAt usage (Some s) count = CountsBy usage s count

-- what the iterators at a place and the three behind it make, one after another
abbrev pub four_made : Usage → List IterSpec → ℕ → List Cell → List Cell
four_made usage specs i list =
    made_at usage (slice_get specs (i + 3)) (made_at usage (slice_get specs (i + 2)) (made_at usage (slice_get specs (i + 1))
    (made_at usage (slice_get specs i) list)))

-- whether they are steady over a source
abbrev pub steady_by_four : Usage → List IterSpec → ℕ → Bool → Bool
steady_by_four usage specs i source =
    steady_at usage (slice_get specs (i + 3)) (steady_at usage (slice_get specs (i + 2)) (steady_at usage (slice_get specs (i + 1))
    (steady_at usage (slice_get specs i) source)))

-- each takes what the one before it makes
abbrev pub FourTake : Usage → List IterSpec → ℕ → List Cell → Type 0
FourTake usage specs i list =
    let one = made_at usage (slice_get specs i) list in
    let two = made_at usage (slice_get specs (i + 1)) one in
    let three = made_at usage (slice_get specs (i + 2)) two in
    TakesAt usage (slice_get specs i) list × TakesAt usage (slice_get specs (i + 1)) one
    × TakesAt usage (slice_get specs (i + 2)) two × TakesAt usage (slice_get specs (i + 3)) three
