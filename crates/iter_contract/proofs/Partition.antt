-- Where a test of a sorted list changes, and the part between two such places.
use Rattle.std.proofs.Common.{◌≡◌, ℕ, zero, suc, ◌+◌, ◌-◌, ◌<◌, ◌≤◌, Bool, true, false, not, ◌&&◌, List, [], ◌∷◌, length, get_or, take, drop, Some, slice_get, refl, sym, ◌∙◌, ap, arith, add-one}
use Rattle.std.proofs.Math.Seq.{take-nil, drop-nil}
use Rattle.std.proofs.lemmas.Cmp.{tied_itself}
use Rattle.std.proofs.lemmas.List.{drop-take}
use Rattle.std.proofs.lemmas.List.Elements.{filter_agree}
use Rattle.std.specs.List.{filter, AllByRecursion}
use Rattle.std.specs.List.Sorted.{IsPartitionedBy, IsPartitionPoint}
use Rattle.std.specs.Ordering.{is_gt}
use Rattle.tablet_model.specs.Cell.{Cell}
use Rattle.tablet_model.specs.Order.{above}
use Rattle.tablet_model.specs.Sorted.{Ascends, first, later}
use Rattle.tablet_model.specs.Cuts.{Cut, Span, is_behind, is_before, within}
use Rattle.tablet_model.proofs.Bools.{false-of-not, true-of-not}
use Rattle.tablet_model.proofs.Orders.{cell_total}
use Rattle.tablet_model.proofs.CutLemmas.{before_down, behind_up, key_le}
use Rattle.tablet_model.proofs.Seeks.{filter_both}

-- ---- two places of a sorted list

not_above_at : (x : Cell) (ys : List Cell) → AllByRecursion (λ y. above x y ≡ false) ys → (j : ℕ) (d : Cell) → j < length ys → above x (get_or ys j d) ≡ false
not_above_at x [] h j d l = absurd (omega arith)
not_above_at x (y ∷ ys) h zero d l = h.0
not_above_at x (y ∷ ys) h (suc j) d l = not_above_at x ys h.1 j d (omega arith)

itself : (x : Cell) → above x x ≡ false
unfolding above
itself x = ap is_gt (tied_itself cell_total x)

-- the later isn't below the earlier
sorted_at : (list : List Cell) → Ascends above list → (i j : ℕ) (d : Cell) → i ≤ j → j < length list → above (get_or list i d) (get_or list j d) ≡ false
unfolding Ascends
sorted_at [] s i j d h l = absurd (omega arith)
sorted_at (x ∷ xs) s zero zero d h l = itself x
sorted_at (x ∷ xs) s zero (suc j) d h l = not_above_at x xs s.0 j d (omega arith)
sorted_at (x ∷ xs) s (suc i) zero d h l = absurd (omega arith)
sorted_at (x ∷ xs) s (suc i) (suc j) d h l = sorted_at xs s.1 i j d (omega arith) (omega arith)

-- what lies before an end stands first
pub before_first : (c : Cut) (list : List Cell) → Ascends above list → IsPartitionedBy (λ e. is_before c e.key) list
before_first c list s i j d h l t = before_down c (get_or list i d).key (get_or list j d).key t (key_le (get_or list i d) (get_or list j d) (sorted_at list s i j d h l))

-- what doesn't lie behind a start stands first
pub not_behind_first : (c : Cut) (list : List Cell) → Ascends above list → IsPartitionedBy (λ e. not (is_behind c e.key)) list
not_behind_first c list s i j d h l t = by_cases (is_behind c (get_or list i d).key) (is_behind c (get_or list j d).key) (λ b. behind_up c (get_or list i d).key (get_or list j d).key b (key_le (get_or list i d) (get_or list j d) (sorted_at list s i j d h l))) t
  where
    by_cases : (a b : Bool) → (a ≡ true → b ≡ true) → not b ≡ true → not a ≡ true
    by_cases a b f t = grind arith

-- ---- what a test keeps that changes at a place

point_next : (test : Cell → Bool) (x : Cell) (xs : List Cell) (i : ℕ) → IsPartitionPoint (λ y. test y ≡ true) (λ y. test y ≡ false) (x ∷ xs) (suc i) → IsPartitionPoint (λ y. test y ≡ true) (λ y. test y ≡ false) xs i
point_next test x xs i p = (λ k d h l. p.0 (suc k) d (omega arith) (omega arith), λ k d h l. p.1 (suc k) d (omega arith) (omega arith))

point_none : (test : Cell → Bool) (x : Cell) (xs : List Cell) → IsPartitionPoint (λ y. test y ≡ true) (λ y. test y ≡ false) (x ∷ xs) zero → IsPartitionPoint (λ y. test y ≡ true) (λ y. test y ≡ false) xs zero
point_none test x xs p = (λ k d h l. absurd (omega arith), λ k d h l. p.1 (suc k) d (omega arith) (omega arith))

-- the test holds below the place
pub filter_to : (test : Cell → Bool) (list : List Cell) (i : ℕ) → IsPartitionPoint (λ y. test y ≡ true) (λ y. test y ≡ false) list i → filter test list ≡ take i list
filter_to test [] i p = sym (take-nil i)
filter_to test (x ∷ xs) zero p = rw (p.1 zero x (omega arith) (omega arith)) (filter_to test xs zero (point_none test x xs p))
filter_to test (x ∷ xs) (suc i) p = rw (p.0 zero x (omega arith) (omega arith)) (ap (λ ys. x ∷ ys) (filter_to test xs i (point_next test x xs i p)))

-- the test fails below the place
pub filter_from : (test : Cell → Bool) (list : List Cell) (i : ℕ) → IsPartitionPoint (λ y. not (test y) ≡ true) (λ y. not (test y) ≡ false) list i → filter test list ≡ drop i list
filter_from test [] i p = sym (drop-nil i)
filter_from test (x ∷ xs) zero p = rw (true-of-not _ (p.1 zero x (omega arith) (omega arith))) (ap (λ ys. x ∷ ys) (filter_from test xs zero (point_none (λ y. not (test y)) x xs p)))
filter_from test (x ∷ xs) (suc i) p = rw (false-of-not _ (p.0 zero x (omega arith) (omega arith))) (filter_from test xs i (point_next (λ y. not (test y)) x xs i p))

-- ---- the part between two places

and_swap : (a b : Bool) → (a && b) ≡ (b && a)
and_swap a b = grind arith

-- the entries of a range stand between two places
pub between : (s : Span) (list : List Cell) (at end : ℕ) → filter (λ e. is_before s.end e.key) list ≡ take end list
    → at ≤ end → filter (λ e. is_behind s.start e.key) (take end list) ≡ drop at (take end list) → take (end - at) (drop at list) ≡ within s list
between s list at end before l behind =
    let e : at + (end - at) ≡ end = omega arith in
    sym (drop-take at (end - at) list)
    ∙ ap (λ n. drop at (take n list)) e
    ∙ sym behind
    ∙ ap (filter (λ e. is_behind s.start e.key)) (sym before)
    ∙ sym (filter_both (λ e. is_before s.end e.key) (λ e. is_behind s.start e.key) list)
    ∙ filter_agree (λ e. is_before s.end e.key && is_behind s.start e.key) (λ e. is_behind s.start e.key && is_before s.end e.key) (λ e. and_swap (is_before s.end e.key) (is_behind s.start e.key)) list

later_take : (m : ℕ) (list : List Cell) → later (take m list) ≡ take (m - 1) (later list)
later_take zero list = refl
later_take (suc m) [] = sym (take-nil (suc m - 1))
later_take (suc m) (x ∷ xs) = let e : m ≡ suc m - 1 = omega arith in ap (λ n. take n xs) e

later_drop : (i : ℕ) (list : List Cell) → later (drop i list) ≡ drop (i + 1) list
later_drop i [] = ap later (drop-nil i) ∙ sym (drop-nil (i + 1))
later_drop zero (x ∷ xs) = refl
later_drop (suc i) (x ∷ xs) = later_drop i xs ∙ (rw (add-one, add-one) refl)

-- one place on
pub step_later : (list : List Cell) (at end : ℕ) → take (end - (at + 1)) (drop (at + 1) list) ≡ later (take (end - at) (drop at list))
step_later list at end =
    let e : end - (at + 1) ≡ (end - at) - 1 = omega arith
    in ap (λ n. take n (drop (at + 1) list)) e ∙ ap (take ((end - at) - 1)) (sym (later_drop at list)) ∙ sym (later_take (end - at) (drop at list))

-- the first entry of the part
pub first_between : (list : List Cell) (at end : ℕ) (e : Cell) → at < end → slice_get list at ≡ Some e → Some e ≡ first (take (end - at) (drop at list))
first_between [] at end e l is = cc
first_between (x ∷ xs) at zero e l is = absurd (omega arith)
first_between (x ∷ xs) zero (suc end) e l is = let n : suc end ≡ suc end - zero = omega arith in sym is ∙ ap (λ k. first (take k (x ∷ xs))) n
first_between (x ∷ xs) (suc at) (suc end) e l is = let n : end - at ≡ suc end - suc at = omega arith in first_between xs at end e (omega arith) is ∙ ap (λ k. first (take k (drop at xs))) n
