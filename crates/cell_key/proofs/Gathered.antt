-- Numbers that are sorted and made unique are those that are put one after the other.
use Rattle.std.proofs.Common.{◌≡◌, ℕ, suc, ◌<◌, ◌≤◌, Bool, true, false, cond, ◌||◌, List, [], ◌∷◌, ◌++◌, refl, sym, ap, ◌∙◌, subst, arith, nat_lt, eqb, add-one}
use Rattle.std.specs.List.{AllByRecursion, dedup, dedup_from}
use Rattle.std.specs.List.Retain.{DiffersFromLast, IsFiltered}
use Rattle.std.specs.List.Sorted.{IsPermutation, IsSorted, IsStrictlyIncreasing}
use Rattle.std.specs.Ordering.{nat_cmp}
use Rattle.std.proofs.lemmas.Bool.{eqb-true, eq-eqb, false_from_ne_true, or_left}
use Rattle.std.proofs.lemmas.List.Filters.{dedup_is}
use Rattle.std.proofs.lemmas.List.Sorted.{list_any-IsPermutation}
use Rattle.std.proofs.lemmas.Map.Keys.{IsStrictlyIncreasing-dedup}
use Rattle.cell_key.specs.FileNumbers.{AreAscending, has_number, with_number, with_numbers}
use Rattle.cell_key.proofs.Numbering.{ascends_with}

-- ---- which numbers are there

or_swap : (a b c : Bool) → (a || (b || c)) ≡ (b || (a || c))
or_swap true true c = refl
or_swap true false c = refl
or_swap false true c = refl
or_swap false false c = refl

or_twice : (a c : Bool) → (a || c) ≡ (a || (a || c))
or_twice true c = refl
or_twice false c = refl

or_front : (p q r : Bool) → (p || (q || r)) ≡ ((q || p) || r)
or_front true true r = refl
or_front true false r = refl
or_front false true r = refl
or_front false false r = refl

or_none : (p : Bool) → (p || false) ≡ p
or_none true = refl
or_none false = refl

has_with : (x : ℕ) (xs : List ℕ) (id : ℕ) → has_number (with_number x xs) id ≡ (eqb id x || has_number xs id)
unfolding with_number
has_with x [] id = refl
has_with x (y ∷ ys) id = here (nat_lt y x) (eqb y x) refl (has_with x ys id)
  where
    here : (b c : Bool) → eqb y x ≡ c → has_number (with_number x ys) id ≡ (eqb id x || has_number ys id)
        → has_number (cond b (y ∷ with_number x ys) (cond c (y ∷ ys) (x ∷ y ∷ ys))) id ≡ (eqb id x || (eqb id y || has_number ys id))
    here true c e more = ap (λ t. eqb id y || t) more ∙ or_swap (eqb id y) (eqb id x) (has_number ys id)
    here false true e more = rw (← eqb-true y x e) (or_twice (eqb id y) (has_number ys id))
    here false false e more = refl

has_onto : (list ids : List ℕ) (id : ℕ) → has_number (with_numbers list ids) id ≡ (has_number list id || has_number ids id)
has_onto [] ids id = refl
has_onto (x ∷ xs) ids id =
    has_onto xs (with_number x ids) id
    ∙ ap (λ t. has_number xs id || t) (has_with x ids id)
    ∙ or_front (has_number xs id) (eqb id x) (has_number ids id)

has_from : (k : ℕ) (xs : List ℕ) (id : ℕ) → has_number (dedup_from eqb k xs) id ≡ (eqb id k || has_number xs id)
has_from k [] id = refl
has_from k (x ∷ xs) id = here (eqb x k) refl (has_from k xs id) (has_from x xs id)
  where
    here : (t : Bool) → eqb x k ≡ t
        → has_number (dedup_from eqb k xs) id ≡ (eqb id k || has_number xs id)
        → has_number (dedup_from eqb x xs) id ≡ (eqb id x || has_number xs id)
        → has_number (cond t (dedup_from eqb k xs) (k ∷ dedup_from eqb x xs)) id ≡ (eqb id k || (eqb id x || has_number xs id))
    here true e same next = same ∙ rw (eqb-true x k e) (or_twice (eqb id k) (has_number xs id))
    here false e same next = ap (λ t. eqb id k || t) next

has_dedup : (xs : List ℕ) (id : ℕ) → has_number (dedup eqb xs) id ≡ has_number xs id
has_dedup [] id = refl
has_dedup (x ∷ xs) id = has_from x xs id

-- ---- ascending lists of the same numbers are equal

has_above : (x : ℕ) (xs : List ℕ) → AllByRecursion (λ j. x < j) xs → (id : ℕ) → has_number xs id ≡ true → x < id
has_above x [] all id h = cc
has_above x (y ∷ ys) all id h = here (eqb id y) refl (has_above x ys all.1 id) h
  where
    here : (t : Bool) → eqb id y ≡ t → (has_number ys id ≡ true → x < id) → (t || has_number ys id) ≡ true → x < id
    here true e rest h = omega (arith, all.0, eqb-true id y e)
    here false e rest h = rest h

not_above : (x : ℕ) (xs : List ℕ) → AllByRecursion (λ j. x < j) xs → has_number xs x ≡ false
not_above x xs all = false_from_ne_true (has_number xs x) (λ h. omega (arith, has_above x xs all x h))

first_there : (x : ℕ) (xs : List ℕ) → has_number (x ∷ xs) x ≡ true
first_there x xs = or_left (eqb x x) (has_number xs x) (eq-eqb x x refl)

first_least : (x : ℕ) (xs : List ℕ) (id : ℕ) → AllByRecursion (λ j. x < j) xs → has_number (x ∷ xs) id ≡ true → x ≤ id
first_least x xs id all h = here (eqb id x) refl h
  where
    here : (t : Bool) → eqb id x ≡ t → (t || has_number xs id) ≡ true → x ≤ id
    here true e h = omega (arith, eqb-true id x e)
    here false e h = omega (arith, has_above x xs all id h)

same_behind : (x : ℕ) (xs ys : List ℕ) → AllByRecursion (λ j. x < j) xs → AllByRecursion (λ j. x < j) ys
    → ((id : ℕ) → has_number (x ∷ xs) id ≡ has_number (x ∷ ys) id) → (id : ℕ) → has_number xs id ≡ has_number ys id
same_behind x xs ys up vp same id = here (eqb id x) refl (same id)
  where
    here : (t : Bool) → eqb id x ≡ t → (t || has_number xs id) ≡ (t || has_number ys id) → has_number xs id ≡ has_number ys id
    here true e h = rw (eqb-true id x e) (not_above x xs up ∙ sym (not_above x ys vp))
    here false e h = h

same_numbers : (xs ys : List ℕ) → AreAscending xs → AreAscending ys → ((id : ℕ) → has_number xs id ≡ has_number ys id) → xs ≡ ys
same_numbers [] [] up vp same = refl
same_numbers [] (y ∷ ys) up vp same = let k : false ≡ true = same y ∙ first_there y ys in cc
same_numbers (x ∷ xs) [] up vp same = let k : true ≡ false = sym (first_there x xs) ∙ same x in cc
same_numbers (x ∷ xs) (y ∷ ys) up vp same =
    let low = first_least x xs y up.0 (same y ∙ first_there y ys) in
    let high = first_least y ys x vp.0 (sym (same x) ∙ first_there x xs) in
    let k : x ≡ y = omega (arith, low, high) in
    let behind = same_numbers xs ys up.1 vp.1
    (same_behind x xs ys up.0 (subst (λ n. AllByRecursion (λ j. n < j) ys) (sym k) vp.0)
    (λ id. same id ∙ ap (λ n. has_number (n ∷ ys) id) (sym k))) in
    cc

-- ---- both ascend

all_below : (x y : ℕ) (zs : List ℕ) → x < y → AllByRecursion (λ j. y < j) zs → AllByRecursion (λ j. x < j) zs
all_below x y [] lt all = all
all_below x y (z ∷ zs) lt all = (omega (arith, lt, all.0), all_below x y zs lt all.1)

increases_behind : (x : ℕ) (xs : List ℕ) → IsStrictlyIncreasing (x ∷ xs) → IsStrictlyIncreasing xs
increases_behind x xs h = λ k lt. let more = h (suc k) (omega (arith, lt)) in rw add-one (rw add-one at more)

increases_above : (x : ℕ) (xs : List ℕ) → IsStrictlyIncreasing (x ∷ xs) → AllByRecursion (λ j. x < j) xs
increases_above x [] h = tt
increases_above x (y ∷ ys) h =
    let lt : x < y = h 0 (omega arith) in
    (lt, all_below x y ys lt (increases_above y ys (increases_behind x (y ∷ ys) h)))

ascends_increasing : (xs : List ℕ) → IsStrictlyIncreasing xs → AreAscending xs
ascends_increasing [] h = tt
ascends_increasing (x ∷ xs) h = (increases_above x xs h, ascends_increasing xs (increases_behind x xs h))

ascends_onto : (list ids : List ℕ) → AreAscending ids → AreAscending (with_numbers list ids)
ascends_onto [] ids up = up
ascends_onto (x ∷ xs) ids up = ascends_onto xs (with_number x ids) (ascends_with x ids up)

-- ---- a sort, and then a `dedup`

pub gathered : (numbers rising ids : List ℕ) → IsPermutation numbers rising → IsSorted nat_cmp rising → IsFiltered (DiffersFromLast eqb) [] rising ids
    → ids ≡ with_numbers numbers []
gathered numbers rising ids p s f =
    dedup_is eqb rising ids f
    ∙ same_numbers (dedup eqb rising) (with_numbers numbers []) (ascends_increasing (dedup eqb rising) (IsStrictlyIncreasing-dedup rising s)) (ascends_onto numbers [] tt)
    (λ id.
    has_dedup rising id
    ∙ sym (list_any-IsPermutation (eqb id) numbers rising p)
    ∙ sym (has_onto numbers [] id ∙ or_none (has_number numbers id)))

pub ascends_gathered : (numbers : List ℕ) → AreAscending (with_numbers numbers [])
ascends_gathered numbers = ascends_onto numbers [] tt

-- a number behind the others is put last
pub onto_push : (list ids : List ℕ) (id : ℕ) → with_numbers (list ++ id ∷ []) ids ≡ with_number id (with_numbers list ids)
onto_push [] ids id = refl
onto_push (x ∷ xs) ids id = onto_push xs (with_number x ids) id
