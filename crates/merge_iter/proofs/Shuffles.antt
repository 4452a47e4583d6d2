-- What stays of sources that change places.
use Rattle.std.proofs.Common.{◌≡◌, ℕ, zero, suc, ◌<◌, ◌&&◌, Bool, List, [], ◌∷◌, ◌++◌, length, map, get_or, set, append_assoc, refl, sym, ◌∙◌, ap, arith}
use Rattle.std.proofs.lemmas.List.Elements.{All-from_recursion, recursion_from_All}
use Rattle.std.proofs.lemmas.List.Sorted.{All-permutation, IsPermutation-keeps}
use Rattle.std.specs.List.{AllByRecursion, flat_map, swap}
use Rattle.std.specs.List.Sorted.{IsPermutation}
use Rattle.tablet_model.specs.Cell.{Cell}
use Rattle.tablet_model.specs.Order.{above}
use Rattle.tablet_model.specs.Sorted.{sorted}
use Rattle.tablet_model.specs.Sum.{sum_all}
use Rattle.tablet_model.proofs.Orders.{above_exact}
use Rattle.tablet_model.proofs.Sums.{sorted_comm, sorted_left, sorted_right}
use Rattle.iter_contract.specs.Several.{all_steady}

-- ---- what two neighbours may change places in, without a change of it

module _ {X R : Type 0} (m : List X → R) (two : (x y : X) (zs : List X) → m (x ∷ y ∷ zs) ≡ m (y ∷ x ∷ zs))
    (behind : (x : X) (ys zs : List X) → m ys ≡ m zs → m (x ∷ ys) ≡ m (x ∷ zs)) where
  -- an element and the first in each other's place
  exchanged : (xs : List X) (x d : X) (j : ℕ) → j < length xs → m (get_or xs j d ∷ set xs j x) ≡ m (x ∷ xs)
  exchanged [] x d j l = absurd (omega arith)
  exchanged (y ∷ ys) x d zero l = two y x ys
  exchanged (y ∷ ys) x d (suc j) l =
      two (get_or ys j d) y (set ys j x)
      ∙ behind y (get_or ys j d ∷ set ys j x) (x ∷ ys) (exchanged ys x d j (omega arith))
      ∙ two y x ys

  swapped : (xs : List X) (i j : ℕ) (d : X) → i < length xs → j < length xs → m (set (set xs i (get_or xs j d)) j (get_or xs i d)) ≡ m xs
  swapped [] i j d k l = absurd (omega arith)
  swapped (x ∷ xs) zero zero d k l = refl
  swapped (x ∷ xs) zero (suc j) d k l = exchanged xs x d j (omega arith)
  swapped (x ∷ xs) (suc i) zero d k l = exchanged xs x d i (omega arith)
  swapped (x ∷ xs) (suc i) (suc j) d k l =
      behind x (set (set xs i (get_or xs j d)) j (get_or xs i d)) xs (swapped xs i j d (omega arith) (omega arith))

  step : (xs : List X) (i j : ℕ) → i < length xs → j < length xs → m (swap xs i j) ≡ m xs
  step [] i j k l = absurd (omega arith)
  step (x ∷ xs) i j k l = swapped (x ∷ xs) i j x k l

  pub shuffled : (xs ys : List X) → IsPermutation xs ys → m ys ≡ m xs
  shuffled xs ys s = IsPermutation-keeps xs (λ l. m l ≡ m xs) refl (λ l i j k n h. step l i j k n ∙ h) ys s

-- ---- sums

pub sum_behind : (l : List Cell) (ls ms : List (List Cell)) → sum_all ls ≡ sum_all ms → sum_all (l ∷ ls) ≡ sum_all (l ∷ ms)
unfolding sum_all
sum_behind l ls ms h =
    sym (sorted_right above above_exact l (flat_map (λ l. l) ls)) ∙ ap (λ r. sorted above (l ++ r)) h ∙ sorted_right above above_exact l (flat_map (λ l. l) ms)

swap_parts : (a b r : List Cell) → sorted above (a ++ (b ++ r)) ≡ sorted above (b ++ (a ++ r))
swap_parts a b r =
    ap (sorted above) (sym (append_assoc a b r))
    ∙ sym (sorted_left above above_exact (a ++ b) r)
    ∙ ap (λ l. sorted above (l ++ r)) (sorted_comm above above_exact a b)
    ∙ sorted_left above above_exact (b ++ a) r
    ∙ ap (sorted above) (append_assoc b a r)

sum_swap : (l m : List Cell) (ls : List (List Cell)) → sum_all (l ∷ m ∷ ls) ≡ sum_all (m ∷ l ∷ ls)
unfolding sum_all
sum_swap l m ls = swap_parts l m (flat_map (λ l. l) ls)

and_swap : (a b c : Bool) → (a && (b && c)) ≡ (b && (a && c))
and_swap a b c = grind arith

module _ {S : Type 0} where
  -- the sum of what they have
  pub sum_shuffled : (f : S → List Cell) (xs ys : List S) → IsPermutation xs ys → sum_all (map f ys) ≡ sum_all (map f xs)
  sum_shuffled f xs ys s =
      shuffled (λ l. sum_all (map f l)) (λ x y zs. sum_swap (f x) (f y) (map f zs)) (λ x ys zs h. sum_behind (f x) (map f ys) (map f zs) h) xs ys s

  -- whether all are steady
  pub steady_shuffled : (steady : S → Bool) (xs ys : List S) → IsPermutation xs ys → all_steady steady ys ≡ all_steady steady xs
  steady_shuffled steady xs ys s =
      shuffled (all_steady steady) (λ x y zs. and_swap (steady x) (steady y) (all_steady steady zs)) (λ x ys zs h. ap (λ b. steady x && b) h) xs ys s

  -- what is said of all
  pub all_shuffled : (P : S → Type 0) (xs ys : List S) → IsPermutation xs ys → AllByRecursion P xs → AllByRecursion P ys
  all_shuffled P xs ys s all = recursion_from_All P ys (All-permutation P xs ys s (All-from_recursion P xs all))
