-- A number put at the place where a search did not find it.
use Rattle.std.proofs.Common.{◌≡◌, ℕ, zero, suc, ◌<◌, ◌≤◌, Bool, true, false, cond, List, [], ◌∷◌, ◌++◌, length, refl, sym, ap, ◌∙◌, arith, nat_lt, eqb, slice_index_or, Result, Ok, Err}
use Rattle.std.specs.List.{AllByRecursion, insert}
use Rattle.std.specs.List.Sorted.{IsBinarySearchResult}
use Rattle.std.specs.Ordering.{nat_cmp}
use Rattle.std.specs.Result.{MatchResult}
use Rattle.std.proofs.lemmas.Bool.{lt-ltb, ltb-true, le-ltb, ne_eqb}
use Rattle.std.proofs.lemmas.Bool.Decides.{nat_tests}
use Rattle.std.proofs.lemmas.List.Sorted.{searched}
use Rattle.cell_key.specs.FileNumbers.{AreAscending, with_number}

-- each of the numbers behind is above the first
all_above : (i : ℕ) (is : List ℕ) (k : ℕ) → AllByRecursion (λ j. i < j) is → k < length is → i < slice_index_or is k 0
all_above i [] k all lt = omega (arith, lt)
all_above i (j ∷ js) zero all lt = all.0
all_above i (j ∷ js) (suc k) all lt = all_above i js k all.1 (omega (arith, lt))

not_lt : (a b : ℕ) → b ≤ a → nat_lt a b ≡ false
not_lt a b h = le-ltb a b h

not_eq : (a b : ℕ) → b < a → eqb a b ≡ false
not_eq a b h = ne_eqb a b (λ e. omega (arith, e, h))

same : (a : ℕ) → eqb a a ≡ true
same a = grind (arith, nat_tests)

-- the numbers rise
rising : (xs : List ℕ) → AreAscending xs → (i j : ℕ) → i ≤ j → j < length xs → slice_index_or xs i 0 ≤ slice_index_or xs j 0
rising [] up i j le lt = omega (arith, lt)
rising (y ∷ ys) up zero zero le lt = omega arith
rising (y ∷ ys) up zero (suc j) le lt = omega (arith, all_above y ys j up.0 (omega (arith, lt)))
rising (y ∷ ys) up (suc i) zero le lt = omega (arith, le)
rising (y ∷ ys) up (suc i) (suc j) le lt = rising ys up.1 i j (omega (arith, le)) (omega (arith, lt))

above : (a b : ℕ) → nat_lt a b ≡ false → eqb a b ≡ false → b < a
above a b e f = grind (arith, nat_tests, e, f)

-- a number that is not there
absent : (xs : List ℕ) (i x : ℕ) → i ≤ length xs → ((k : ℕ) → k < i → slice_index_or xs k 0 < x) → ((k : ℕ) → i ≤ k → k < length xs → x < slice_index_or xs k 0)
    → insert xs i x ≡ with_number x xs
unfolding with_number
absent [] zero x le below over = refl
absent [] (suc i) x le below over = absurd (omega (arith, le))
absent (y ∷ ys) zero x le below over =
    sym (ap (λ b. cond b (y ∷ with_number x ys) (cond (eqb y x) (y ∷ ys) (x ∷ y ∷ ys))) (not_lt y x (omega (arith, over 0 (omega arith) (omega arith))))
    ∙ ap (λ b. cond b (y ∷ ys) (x ∷ y ∷ ys)) (not_eq y x (over 0 (omega arith) (omega arith))))
absent (y ∷ ys) (suc i) x le below over =
    ap (λ l. y ∷ l) (absent ys i x (omega (arith, le)) (λ k lt. below (suc k) (omega (arith, lt))) (λ k from lt. over (suc k) (omega (arith, from)) (omega (arith, lt))))
    ∙ sym (ap (λ b. cond b (y ∷ with_number x ys) (cond (eqb y x) (y ∷ ys) (x ∷ y ∷ ys))) (lt-ltb y x (below 0 (omega arith))))

-- a number that is there
present : (xs : List ℕ) (i x : ℕ) → i < length xs → slice_index_or xs i 0 ≡ x → AreAscending xs → xs ≡ with_number x xs
unfolding with_number
present [] i x lt is up = absurd (omega (arith, lt))
present (y ∷ ys) zero x lt is up =
    sym (ap (λ b. cond b (y ∷ with_number x ys) (cond (eqb y x) (y ∷ ys) (x ∷ y ∷ ys))) (not_lt y x (omega (arith, is)))
    ∙ ap (λ b. cond b (y ∷ ys) (x ∷ y ∷ ys)) (ap (eqb y) (sym is) ∙ same y))
present (y ∷ ys) (suc i) x lt is up =
    ap (λ l. y ∷ l) (present ys i x (omega (arith, lt)) is up.1)
    ∙ sym (ap (λ b. cond b (y ∷ with_number x ys) (cond (eqb y x) (y ∷ ys) (x ∷ y ∷ ys))) (lt-ltb y x (omega (arith, is, all_above y ys i up.0 (omega (arith, lt))))))

all_with : (P : ℕ → Type 0) (x : ℕ) (xs : List ℕ) → P x → AllByRecursion P xs → AllByRecursion P (with_number x xs)
unfolding with_number
all_with P x [] p all = (p, all)
all_with P x (y ∷ ys) p all = here (nat_lt y x) (eqb y x) (all_with P x ys p all.1)
  where
    here : (b c : Bool) → AllByRecursion P (with_number x ys) → AllByRecursion P (cond b (y ∷ with_number x ys) (cond c (y ∷ ys) (x ∷ y ∷ ys)))
    here true c rest = (all.0, rest)
    here false true rest = all
    here false false rest = (p, all)

-- the numbers stay in order
pub ascends_with : (x : ℕ) (xs : List ℕ) → AreAscending xs → AreAscending (with_number x xs)
unfolding with_number
ascends_with x [] up = (up, up)
ascends_with x (y ∷ ys) up = here (nat_lt y x) (eqb y x) refl refl (ascends_with x ys up.1)
  where
    below : (zs : List ℕ) → x < y → AllByRecursion (λ j. y < j) zs → AllByRecursion (λ j. x < j) zs
    below [] lt all = all
    below (z ∷ zs) lt all = (omega (arith, lt, all.0), below zs lt all.1)

    here : (b c : Bool) → nat_lt y x ≡ b → eqb y x ≡ c → AreAscending (with_number x ys) → AreAscending (cond b (y ∷ with_number x ys) (cond c (y ∷ ys) (x ∷ y ∷ ys)))
    here true c e f rest = (all_with (λ j. y < j) x ys (ltb-true y x e) up.0, rest)
    here false true e f rest = up
    here false false e f rest = let lt : x < y = above y x e f in ((lt, below ys lt up.0), up)

-- what a search says of the list with a number
pub searched_with : (xs : List ℕ) (x : ℕ) (r : Result ℕ ℕ) → AreAscending xs → IsBinarySearchResult (λ y. nat_cmp y x) xs r
    → MatchResult r (λ i. xs ≡ with_number x xs) (λ i. insert xs i x ≡ with_number x xs)
searched_with xs x (Ok i) up h = let at = searched xs x (Ok i) h (rising xs up) in present xs i x at.0 at.1 up
searched_with xs x (Err i) up h = let at = searched xs x (Err i) h (rising xs up) in absent xs i x at.0 at.1 at.2

-- a number above all others stands at the end
pub ascends_push : (xs : List ℕ) (id : ℕ) → AreAscending xs → AllByRecursion (λ i. i < id) xs → AreAscending (xs ++ id ∷ [])
ascends_push [] id up below = (tt, tt)
ascends_push (x ∷ xs) id up below = (before xs up.0, ascends_push xs id up.1 below.1)
  where
    before : (ys : List ℕ) → AllByRecursion (λ j. x < j) ys → AllByRecursion (λ j. x < j) (ys ++ id ∷ [])
    before [] all = (below.0, tt)
    before (y ∷ ys) all = (all.0, before ys all.1)
