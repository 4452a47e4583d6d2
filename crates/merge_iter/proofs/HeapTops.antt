-- The first of sources in a heap begins with the first entry of their sum.
use Rattle.std.proofs.Common.{◌≡◌, ℕ, zero, suc, ◌+◌, ◌/◌, ◌<◌, ◌≤◌, false, List, [], ◌∷◌, length, map, get_or, set, slice_get, Some, None, sym, ◌∙◌, ap, subst, arith}
use Rattle.std.proofs.lemmas.List.Elements.{recursion_from_All}
use Rattle.std.specs.List.{AllByRecursion}
use Rattle.std.specs.List.Sorted.{IsPermutation}
use Rattle.std.proofs.lemmas.List.Sorted.{IsPermutation-map}
use Rattle.tablet_model.specs.Cell.{Cell}
use Rattle.tablet_model.specs.Order.{above}
use Rattle.tablet_model.specs.Sorted.{sorted, Ascends, first, later}
use Rattle.tablet_model.specs.Sum.{sum_all}
use Rattle.iter_contract.specs.Several.{begins_behind, has_later_top, AreOrdered}
use Rattle.iter_contract.proofs.FirstTops.{top_of_sum, later_of_sum, some_first, some_source}
use Rattle.iter_contract.proofs.Moves.{sorted_all, sorted_ordered, sorted_sum}
use Rattle.merge_iter.specs.Heaps.{IsHeapFrom, IsHeap}
use Rattle.merge_iter.proofs.Shuffles.{all_shuffled, sum_behind}
use Rattle.merge_iter.proofs.TopOrder.{top_order, not_later_itself}

all_mapped : {X Y : Type 0} (f : X → Y) (P : Y → Type 0) (xs : List X) → AllByRecursion (λ x. P (f x)) xs → AllByRecursion P (map f xs)
all_mapped f P [] all = tt
all_mapped f P (x ∷ xs) all = (all.0, all_mapped f P xs all.1)

later_ascends : (list : List Cell) → Ascends above list → Ascends above (later list)
unfolding Ascends
later_ascends [] up = tt
later_ascends (x ∷ xs) up = up.1

module _ {S : Type 0} (rest : S → List Cell) where
  -- ---- the first source

  -- it has no later top than one at any place: each has none than its children
  not_later : (s : S) (ss : List S) (d : S) → IsHeapFrom rest 0 (s ∷ ss) → (most place : ℕ) → place ≤ most → place < length (s ∷ ss)
      → has_later_top rest s (get_or (s ∷ ss) place d) ≡ false
  not_later s ss d h most zero few inside = not_later_itself rest s
  not_later s ss d h zero (suc place) few inside = absurd (omega arith)
  not_later s ss d h (suc most) (suc place) few inside =
      (top_order rest).chain s (get_or (s ∷ ss) (place / 2) d) (get_or (s ∷ ss) (suc place) d)
      (not_later s ss d h most (place / 2) (omega arith) (omega arith))
      (h (place / 2) (suc place) d (omega arith) (omega arith) (omega arith) inside)

  before_all : (s : S) (ss : List S) → IsHeapFrom rest 0 (s ∷ ss) → AllByRecursion (λ t. has_later_top rest s t ≡ false) ss
  before_all s ss h =
      recursion_from_All (λ t. has_later_top rest s t ≡ false) ss
      (λ place d inside. not_later s ss d h (suc place) (suc place) (omega arith) (omega arith))

  -- the others behind it, in the order of their tops
  others : List S → List S
  others ss = sorted (has_later_top rest) ss

  ordered : (s : S) (ss : List S) → IsHeap rest (s ∷ ss) → AreOrdered (rest s ∷ map rest (others ss))
  unfolding others Ascends
  ordered s ss h =
      let behind = sorted_ordered rest ss h.each.1 in
      let P : S → Type 0 = λ t. has_later_top rest s t ≡ false in
      record {
        each = (h.each.0, behind.each);
        by_first = (all_mapped rest (λ l. begins_behind (rest s) l ≡ false) (sorted (has_later_top rest) ss) (sorted_all (has_later_top rest) P ss (before_all s ss h.by_top)), behind.by_first);
      }

  same_sum : (l : List Cell) (ss : List S) → sum_all (l ∷ map rest (others ss)) ≡ sum_all (l ∷ map rest ss)
  unfolding others
  same_sum l ss = sum_behind l (map rest (sorted (has_later_top rest) ss)) (map rest ss) (sorted_sum (has_later_top rest) rest ss)

  some_others : (s : S) (ss : List S) → 0 < length (sum_all (rest s ∷ map rest ss)) → 0 < length (sum_all (rest s ∷ map rest (others ss)))
  some_others s ss some = subst (λ l. 0 < length l) (sym (same_sum (rest s) ss)) some

  -- its top is that of the sum
  pub top_of_heap : (ss : List S) (s : S) → IsHeap rest ss → Some s ≡ slice_get ss 0 → first (rest s) ≡ first (sum_all (map rest ss))
  top_of_heap [] s h e = absurd (apart e)
    where
      apart : Some s ≡ None → ⊥
      apart e = cc
  top_of_heap (t ∷ ts) s h e =
      ap (λ x. first (rest x)) (inside e) ∙ top_of_sum (rest t) (map rest (others ts)) (ordered t ts h) ∙ ap first (same_sum (rest t) ts)
    where
      inside : Some s ≡ Some t → s ≡ t
      inside e = cc

  -- where the sum has an entry, so has the first
  pub some_of_root : (ss : List S) (s : S) → IsHeap rest ss → 0 < length (sum_all (map rest ss)) → s ≡ get_or ss 0 s → 0 < length (rest s)
  some_of_root [] s h some e = let none = some_source rest [] some in absurd (omega (arith, none))
  some_of_root (t ∷ ts) s h some e =
      subst (λ x. 0 < length (rest x)) (sym e) (some_first (rest t) (map rest (others ts)) (ordered t ts h) (some_others t ts some))

  -- ---- the first source after a step

  -- the sum without its first entry
  pub stepped_root : (ss : List S) (s d : S) → IsHeap rest ss → 0 < length (sum_all (map rest ss)) → rest s ≡ later (rest (get_or ss 0 d))
      → sum_all (map rest (set ss 0 s)) ≡ later (sum_all (map rest ss))
  stepped_root [] s d h some e = let none = some_source rest [] some in absurd (omega (arith, none))
  stepped_root (t ∷ ts) s d h some e =
      ap (λ l. sum_all (l ∷ map rest ts)) e
      ∙ sym (same_sum (later (rest t)) ts)
      ∙ later_of_sum (rest t) (map rest (others ts)) (ordered t ts h) (some_others t ts some)
      ∙ ap later (same_sum (rest t) ts)

  -- each is still in order
  pub stepped_each : (ss : List S) (s d : S) → IsHeap rest ss → 0 < length ss → rest s ≡ later (rest (get_or ss 0 d)) → AllByRecursion (Ascends above) (map rest (set ss 0 s))
  stepped_each [] s d h some e = tt
  stepped_each (t ∷ ts) s d h some e = (subst (Ascends above) (sym e) (later_ascends (rest t) h.each.0), h.each.1)

  -- and they are in a heap but for the first
  pub stepped_below : (ss : List S) (s : S) → IsHeapFrom rest 0 ss → IsHeapFrom rest (0 + 1) (set ss 0 s)
  stepped_below [] s h = λ parent child d low from to inside. absurd (omega arith)
  stepped_below (t ∷ ts) s h = go
    where
      go : IsHeapFrom rest (0 + 1) (s ∷ ts)
      go zero child d low from to inside = absurd (omega arith)
      go (suc parent) zero d low from to inside = absurd (omega arith)
      go (suc parent) (suc child) d low from to inside = h (suc parent) (suc child) d (omega arith) from to inside

  -- ---- sources that change places are in order still
  pub each_shuffled : (xs ys : List S) → IsPermutation xs ys → AllByRecursion (Ascends above) (map rest xs) → AllByRecursion (Ascends above) (map rest ys)
  each_shuffled xs ys s each = all_shuffled (Ascends above) (map rest xs) (map rest ys) (IsPermutation-map rest xs ys s) each
