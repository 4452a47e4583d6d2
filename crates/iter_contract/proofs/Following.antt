-- A list is in order if each entry doesn't sort before the one before it.
use Rattle.std.proofs.Common.{◌≡◌, false, List, [], ◌∷◌, Option, Some, None, refl}
use Rattle.std.specs.List.{AllByRecursion}
use Rattle.tablet_model.specs.Cell.{Cell}
use Rattle.tablet_model.specs.Order.{above}
use Rattle.tablet_model.specs.Sorted.{Ascends}
use Rattle.tablet_model.proofs.Orders.{above_exact}
use Rattle.tablet_model.proofs.Sums.{all_weaker}
use Rattle.iter_contract.specs.Following.{is_out_of_order}

-- each entry of a list doesn't sort before the one before it
abbrev pub Follows : Option Cell → List Cell → Type 0
Follows before [] = Unit {0}
Follows before (e ∷ es) = (is_out_of_order before e ≡ false) × Follows (Some e) es

follows_head : (x : Cell) (xs : List Cell) → AllByRecursion (λ y. above x y ≡ false) xs → Ascends above xs → Follows (Some x) xs
unfolding Ascends
follows_head x [] h a = tt
follows_head x (y ∷ ys) h a = (h.0, follows_head y ys a.0 a.1)

pub ascends_follows : (list : List Cell) → Ascends above list → Follows None list
unfolding Ascends
ascends_follows [] a = tt
ascends_follows (x ∷ xs) a = (refl, follows_head x xs a.0 a.1)

head_ascends : (x : Cell) (xs : List Cell) → Follows (Some x) xs → AllByRecursion (λ y. above x y ≡ false) xs × Ascends above xs
unfolding Ascends
head_ascends x [] f = (tt, tt)
head_ascends x (y ∷ ys) f =
    let behind = head_ascends y ys f.1 in
    ((f.0, all_weaker (λ z. above y z ≡ false) (λ z. above x z ≡ false) (λ z h. above_exact.chain x y z f.0 h) ys behind.0), (behind.0, behind.1))

pub follows_ascends : (list : List Cell) → Follows None list → Ascends above list
unfolding Ascends
follows_ascends [] f = tt
follows_ascends (x ∷ xs) f = head_ascends x xs f.1
