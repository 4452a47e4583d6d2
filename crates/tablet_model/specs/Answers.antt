-- What a scan answers. Accumulo's iterators see the live entries; that families restrict what stands beneath the stack, and a range what
-- the whole stack makes, are this project's rules.
use Rattle.std.specs.Prelude.{ℕ, List, Option}
use Rattle.tablet_model.specs.Cell.{Cell}
use Rattle.tablet_model.specs.Cuts.{Span, within}
use Rattle.tablet_model.specs.Families.{in_families}
use Rattle.tablet_model.specs.Markers.{live}
use Rattle.tablet_model.specs.History.{RowChange, history_entries}

-- what a scan of a range, in these families, answers by a stack of stages, where the list has all entries
unfoldable pub scan_of : (List Cell → List Cell) → Span → Option (List (List ℕ)) → List Cell → List Cell
scan_of stack range families list = within range (stack (in_families families (live list)))

-- what a scan answers over a history: nothing of files, memory or compactions is in it
unfoldable pub answer : (List Cell → List Cell) → Span → Option (List (List ℕ)) → List RowChange → List Cell
answer stack range families h = scan_of stack range families (history_entries h)
