-- Sources are ordered by their tops, those with nothing left behind all others.
use Rattle.std.proofs.Common.{◌≡◌, Bool, true, false, List, [], ◌∷◌, refl}
use Rattle.std.specs.Cmp.{IsStrictWeakOrder}
use Rattle.tablet_model.specs.Cell.{Cell}
use Rattle.tablet_model.proofs.Orders.{above_exact}
use Rattle.iter_contract.specs.Several.{begins_behind, has_later_top}

either : (l m : List Cell) → begins_behind l m ≡ true → begins_behind m l ≡ false
either l [] h = absurd (none h)
  where
    none : false ≡ true → ⊥
    none e = cc
either [] (y ∷ ys) h = refl
either (x ∷ xs) (y ∷ ys) h = above_exact.either x y h

chain : (l m n : List Cell) → begins_behind l m ≡ false → begins_behind m n ≡ false → begins_behind l n ≡ false
chain l m [] h k = refl
chain l [] (z ∷ zs) h k = absurd (apart k)
  where
    apart : true ≡ false → ⊥
    apart e = cc
chain [] (y ∷ ys) (z ∷ zs) h k = absurd (apart h)
  where
    apart : true ≡ false → ⊥
    apart e = cc
chain (x ∷ xs) (y ∷ ys) (z ∷ zs) h k = above_exact.chain x y z h k

pub top_order : {S : Type 0} (rest : S → List Cell) → IsStrictWeakOrder (has_later_top rest)
top_order rest = record { one_way = λ x y. either (rest x) (rest y); chain = λ x y z. chain (rest x) (rest y) (rest z) }

-- no source has a later top than itself
pub not_later_itself : {S : Type 0} (rest : S → List Cell) (s : S) → has_later_top rest s s ≡ false
not_later_itself rest s = go (has_later_top rest s s) refl
  where
    go : (b : Bool) → has_later_top rest s s ≡ b → has_later_top rest s s ≡ false
    go true h = either (rest s) (rest s) h
    go false h = h
