-- Lists without markers.
use Rattle.std.proofs.Common.{false, List, [], ◌∷◌, ◌++◌, ◌≡◌}
use Rattle.tablet_model.specs.Cell.{Cell}
use Rattle.tablet_model.specs.Order.{above}
use Rattle.tablet_model.specs.Sorted.{sorted}
use Rattle.tablet_model.proofs.Orders.{above_exact}
use Rattle.tablet_model.proofs.Sums.{all_put}
use Rattle.whole_row.specs.RowLists.{AreLive}

pub live_push : (list : List Cell) (e : Cell) → AreLive list → e.key.deleted ≡ false → AreLive (list ++ e ∷ [])
live_push [] e h k = (k, tt)
live_push (x ∷ xs) e h k = (h.0, live_push xs e h.1 k)

pub live_sorted : (list : List Cell) → AreLive list → AreLive (sorted above list)
unfolding sorted
live_sorted [] h = tt
live_sorted (x ∷ xs) h = all_put above above_exact (λ e. e.key.deleted ≡ false) x (sorted above xs) h.0 (live_sorted xs h.1)
