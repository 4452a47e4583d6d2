-- The runs of a map, oldest first. All of this is this project's own.
use Rattle.std.specs.Prelude.{◌<◌, ◌^◌, List, ◌++◌, length, map}
use Rattle.std.specs.Arc.{arc_value}
use Rattle.std.specs.List.{AllByRecursion, flat_map}
use Rattle.std.specs.declared.sync.Arc.{Arc}
use Rattle.tablet_model.specs.Cell.{Cell}
use Rattle.tablet_model.specs.Order.{above}
use Rattle.tablet_model.specs.Runs.{AreHalving, first_size}
use Rattle.tablet_model.specs.Sorted.{Ascends, sorted}

-- the lists that are shared
abbrev pub lists_of : {Z : Type 0} → List (Arc (List Cell) Z) → List (List Cell)
lists_of runs = map (λ r. arc_value r) runs

-- each is in order, and at least twice as long as the next; the first is as long as a list in memory can be
pub record AreRuns (lists : List (List Cell)) : Type 0 where
  pub each : AllByRecursion (Ascends above) lists
  pub halving : AreHalving length lists
  pub short : first_size length lists < 2 ^ 62

-- the run that some lists and new entries make together
abbrev pub run_of : List (List Cell) → List Cell → List Cell
run_of lists new = sorted above (flat_map (λ l. l) lists ++ new)
