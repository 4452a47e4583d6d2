-- Entries that std sorts by their order are in this project's words for it.
use Rattle.std.proofs.Common.{◌≡◌, List, sym, ◌∙◌}
use Rattle.std.specs.List.Sorted.{IsPermutation, IsSorted}
use Rattle.tablet_model.specs.Cell.{Cell}
use Rattle.tablet_model.specs.Order.{above, cell_cmp}
use Rattle.tablet_model.specs.Sorted.{Ascends, sorted}
use Rattle.tablet_model.proofs.Bridges.{Ascends-from_sorted, sorted-IsPermutation}
use Rattle.tablet_model.proofs.Orders.{above_exact, cell_total, exact_cells}
use Rattle.tablet_model.proofs.Sums.{sorted_same}

-- std's order is this one
pub Ascends-sort : (list : List Cell) → IsSorted cell_cmp list → Ascends above list
unfolding above
Ascends-sort list h = Ascends-from_sorted cell_cmp cell_total list h

-- the same entries, in order
pub sorted-sort : (before after : List Cell) → IsPermutation before after → IsSorted cell_cmp after → after ≡ sorted above before
unfolding above
sorted-sort before after p h =
    sym (sorted_same above above_exact after (Ascends-from_sorted cell_cmp cell_total after h))
    ∙ sym (sorted-IsPermutation cell_cmp cell_total exact_cells before after p)
