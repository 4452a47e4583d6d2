-- The sum of sorted lists of entries.
use Rattle.std.specs.Prelude.{List, ◌++◌}
use Rattle.std.specs.List.{flat_map}
use Rattle.tablet_model.specs.Cell.{Cell}
use Rattle.tablet_model.specs.Order.{above}
use Rattle.tablet_model.specs.Sorted.{sorted}

-- the sorted list of all entries of both, each as often as it stands in the two (Accumulo merges the parts of a tablet so)
unfoldable pub sum_of : List Cell → List Cell → List Cell
sum_of a x = sorted above (a ++ x)

-- the sum of any number of lists
unfoldable pub sum_all : List (List Cell) → List Cell
sum_all lists = sorted above (flat_map (λ l. l) lists)
