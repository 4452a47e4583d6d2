-- The first element of a list that passes a test, and lists where another stands in its place, or none.
use Rattle.std.proofs.Common.{◌≡◌, ℕ, suc, ◌+◌, not, Bool, true, false, cond, List, [], ◌∷◌, ◌++◌, length, nat_lt, Option, Some, None, slice_get, refl, sym, ap, ◌∙◌, subst, arith}
use Rattle.std.specs.Prelude.{option_and_then, option_map, position, remove, slice_set}
use Rattle.std.specs.List.{AllByRecursion, prefix_len}

module _ {X : Type 0} (p : X → Bool) where
  pub first_passing : List X → Option X
  first_passing [] = None
  first_passing (x ∷ xs) = cond (p x) (Some x) (first_passing xs)

  pub with_first : X → List X → List X
  with_first y [] = []
  with_first y (x ∷ xs) = cond (p x) (y ∷ xs) (x ∷ with_first y xs)

  pub without_first : List X → List X
  without_first [] = []
  without_first (x ∷ xs) = cond (p x) xs (x ∷ without_first xs)

  from_zero : (n : ℕ) → nat_lt 0 (suc n) ≡ true
  from_zero n = grind arith

  one_more : (m n : ℕ) → nat_lt (1 + m) (suc n) ≡ nat_lt m n
  one_more m n = grind arith

  place_here : (x : X) (xs : List X) → p x ≡ true → position p (x ∷ xs) ≡ Some 0
  place_here x xs h =
      ap (λ b. cond (nat_lt (cond (not b) (1 + prefix_len (λ y. not (p y)) xs) 0) (suc (length xs))) (Some (cond (not b) (1 + prefix_len (λ y. not (p y)) xs) 0)) None) h
      ∙ ap (λ b. cond b (Some 0) None) (from_zero (length xs))

  place_later : (x : X) (xs : List X) → p x ≡ false → position p (x ∷ xs) ≡ option_map (λ i. 1 + i) (position p xs)
  place_later x xs h =
      ap (λ b. cond (nat_lt (cond (not b) (1 + prefix_len (λ y. not (p y)) xs) 0) (suc (length xs))) (Some (cond (not b) (1 + prefix_len (λ y. not (p y)) xs) 0)) None) h
      ∙ ap (λ b. cond b (Some (1 + prefix_len (λ y. not (p y)) xs)) None) (one_more (prefix_len (λ y. not (p y)) xs) (length xs))
      ∙ moved (nat_lt (prefix_len (λ y. not (p y)) xs) (length xs)) (prefix_len (λ y. not (p y)) xs)
    where
      moved : (b : Bool) (k : ℕ) → cond b (Some (1 + k)) None ≡ option_map (λ i. 1 + i) (cond b (Some k) None)
      moved true k = refl
      moved false k = refl

  plus : (i : ℕ) → 1 + i ≡ suc i
  plus i = omega arith

  get_later : (x : X) (xs : List X) (o : Option ℕ) → option_and_then (slice_get (x ∷ xs)) (option_map (λ i. 1 + i) o) ≡ option_and_then (slice_get xs) o
  get_later x xs None = refl
  get_later x xs (Some i) = ap (slice_get (x ∷ xs)) (plus i)

  -- the element at the first place
  pub get_is : (xs : List X) → option_and_then (slice_get xs) (position p xs) ≡ first_passing xs
  unfolding first_passing
  get_is [] = refl
  get_is (x ∷ xs) = by_answer (p x) refl (get_is xs)
    where
      by_answer : (b : Bool) → p x ≡ b → option_and_then (slice_get xs) (position p xs) ≡ first_passing xs
          → option_and_then (slice_get (x ∷ xs)) (position p (x ∷ xs)) ≡ cond b (Some x) (first_passing xs)
      by_answer true e k = ap (option_and_then (slice_get (x ∷ xs))) (place_here x xs e)
      by_answer false e k = ap (option_and_then (slice_get (x ∷ xs))) (place_later x xs e) ∙ get_later x xs (position p xs) ∙ k

  set_at : List X → X → Option ℕ → List X
  set_at xs y o = elim o [ None ↦ xs | Some i ↦ slice_set xs i y ]

  set_later : (x y : X) (xs : List X) (o : Option ℕ) → set_at (x ∷ xs) y (option_map (λ i. 1 + i) o) ≡ x ∷ set_at xs y o
  unfolding set_at
  set_later x y xs None = refl
  set_later x y xs (Some i) = ap (λ k. slice_set (x ∷ xs) k y) (plus i)

  -- another in its place
  pub set_is : (y : X) (xs : List X) → elim (position p xs) [ None ↦ xs | Some i ↦ slice_set xs i y ] ≡ with_first y xs
  unfolding with_first set_at
  set_is y [] = refl
  set_is y (x ∷ xs) = by_answer (p x) refl (set_is y xs)
    where
      by_answer : (b : Bool) → p x ≡ b → set_at xs y (position p xs) ≡ with_first y xs
          → set_at (x ∷ xs) y (position p (x ∷ xs)) ≡ cond b (y ∷ xs) (x ∷ with_first y xs)
      by_answer true e k = ap (set_at (x ∷ xs) y) (place_here x xs e)
      by_answer false e k = ap (set_at (x ∷ xs) y) (place_later x xs e) ∙ set_later x y xs (position p xs) ∙ ap (λ l. x ∷ l) k

  remove_at : List X → Option ℕ → List X
  remove_at xs o = elim o [ None ↦ xs | Some i ↦ remove xs i ]

  remove_later : (x : X) (xs : List X) (o : Option ℕ) → remove_at (x ∷ xs) (option_map (λ i. 1 + i) o) ≡ x ∷ remove_at xs o
  unfolding remove_at
  remove_later x xs None = refl
  remove_later x xs (Some i) = ap (λ k. remove (x ∷ xs) k) (plus i)

  -- none in its place
  pub remove_is : (xs : List X) → elim (position p xs) [ None ↦ xs | Some i ↦ remove xs i ] ≡ without_first xs
  unfolding without_first remove_at
  remove_is [] = refl
  remove_is (x ∷ xs) = by_answer (p x) refl (remove_is xs)
    where
      by_answer : (b : Bool) → p x ≡ b → remove_at xs (position p xs) ≡ without_first xs
          → remove_at (x ∷ xs) (position p (x ∷ xs)) ≡ cond b xs (x ∷ without_first xs)
      by_answer true e k = ap (remove_at (x ∷ xs)) (place_here x xs e)
      by_answer false e k = ap (remove_at (x ∷ xs)) (place_later x xs e) ∙ remove_later x xs (position p xs) ∙ ap (λ l. x ∷ l) k

  -- the first one passes
  pub first_passes : (xs : List X) (x : X) → first_passing xs ≡ Some x → p x ≡ true
  unfolding first_passing
  first_passes [] x h = absurd (cc)
  first_passes (y ∷ ys) x h = by_answer (p y) refl (first_passes ys x) h
    where
      by_answer : (b : Bool) → p y ≡ b → (first_passing ys ≡ Some x → p x ≡ true) → cond b (Some y) (first_passing ys) ≡ Some x → p x ≡ true
      by_answer true e later k = let same : y ≡ x = cc in ap p (sym same) ∙ e
      by_answer false e later k = later k

  -- what holds of all holds of it
  pub first_has : (P : X → Type 0) (xs : List X) (x : X) → AllByRecursion P xs → first_passing xs ≡ Some x → P x
  unfolding first_passing
  first_has P [] x all h = absurd (cc)
  first_has P (y ∷ ys) x all h = by_answer (p y) (first_has P ys x all.1) h
    where
      by_answer : (b : Bool) → (first_passing ys ≡ Some x → P x) → cond b (Some y) (first_passing ys) ≡ Some x → P x
      by_answer true later k = let same : y ≡ x = cc in subst P same all.0
      by_answer false later k = later k

  -- it stays the first one where more stand behind
  pub first_stays : (xs ys : List X) (x : X) → first_passing xs ≡ Some x → first_passing (xs ++ ys) ≡ Some x
  unfolding first_passing
  first_stays [] ys x h = absurd (cc)
  first_stays (z ∷ zs) ys x h = by_answer (p z) (first_stays zs ys x) h
    where
      by_answer : (b : Bool) → (first_passing zs ≡ Some x → first_passing (zs ++ ys) ≡ Some x) → cond b (Some z) (first_passing zs) ≡ Some x
          → cond b (Some z) (first_passing (zs ++ ys)) ≡ Some x
      by_answer true later k = k
      by_answer false later k = later k

  -- another one that passes comes in its place
  pub first_set : (y : X) → p y ≡ true → (xs : List X) (x : X) → first_passing xs ≡ Some x → first_passing (with_first y xs) ≡ Some y
  unfolding first_passing with_first
  first_set y passes [] x h = absurd (cc)
  first_set y passes (z ∷ zs) x h = by_answer (p z) refl (first_set y passes zs x) h
    where
      by_answer : (b : Bool) → p z ≡ b → (first_passing zs ≡ Some x → first_passing (with_first y zs) ≡ Some y) → cond b (Some z) (first_passing zs) ≡ Some x
          → first_passing (cond b (y ∷ zs) (z ∷ with_first y zs)) ≡ Some y
      by_answer true e later k = ap (λ b. cond b (Some y) (first_passing zs)) passes
      by_answer false e later k = ap (λ b. cond b (Some z) (first_passing (with_first y zs))) e ∙ later k

  -- one that is put behind others is the first one, where there was none
  pub first_added : (y : X) → p y ≡ true → (xs : List X) → first_passing xs ≡ None → first_passing (xs ++ y ∷ []) ≡ Some y
  unfolding first_passing
  first_added y passes [] h = ap (λ b. cond b (Some y) None) passes
  first_added y passes (z ∷ zs) h = by_answer (p z) (first_added y passes zs) h
    where
      by_answer : (b : Bool) → (first_passing zs ≡ None → first_passing (zs ++ y ∷ []) ≡ Some y) → cond b (Some z) (first_passing zs) ≡ None
          → cond b (Some z) (first_passing (zs ++ y ∷ [])) ≡ Some y
      by_answer true later k = absurd (cc)
      by_answer false later k = later k

  -- what holds of all holds with another in its place, and without it
  pub all_with : (P : X → Type 0) (y : X) → P y → (xs : List X) → AllByRecursion P xs → AllByRecursion P (with_first y xs)
  unfolding with_first
  all_with P y h [] all = tt
  all_with P y h (x ∷ xs) all = by_answer (p x) (all_with P y h xs all.1)
    where
      by_answer : (b : Bool) → AllByRecursion P (with_first y xs) → AllByRecursion P (cond b (y ∷ xs) (x ∷ with_first y xs))
      by_answer true later = (h, all.1)
      by_answer false later = (all.0, later)

  pub all_without : (P : X → Type 0) (xs : List X) → AllByRecursion P xs → AllByRecursion P (without_first xs)
  unfolding without_first
  all_without P [] all = tt
  all_without P (x ∷ xs) all = by_answer (p x) (all_without P xs all.1)
    where
      by_answer : (b : Bool) → AllByRecursion P (without_first xs) → AllByRecursion P (cond b xs (x ∷ without_first xs))
      by_answer true later = all.1
      by_answer false later = (all.0, later)

-- what becomes of the first of another test
module _ {X : Type 0} (p q : X → Bool) (apart : (x : X) → q x ≡ true → p x ≡ false) where
  pub set_beside : (y : X) → p y ≡ false → (xs : List X) → first_passing p (with_first q y xs) ≡ first_passing p xs
  unfolding first_passing with_first
  set_beside y fails [] = refl
  set_beside y fails (x ∷ xs) = by_answer (q x) refl (set_beside y fails xs)
    where
      by_answer : (b : Bool) → q x ≡ b → first_passing p (with_first q y xs) ≡ first_passing p xs
          → first_passing p (cond b (y ∷ xs) (x ∷ with_first q y xs)) ≡ cond (p x) (Some x) (first_passing p xs)
      by_answer true e later = ap (λ b. cond b (Some y) (first_passing p xs)) fails ∙ sym (ap (λ b. cond b (Some x) (first_passing p xs)) (apart x e))
      by_answer false e later = ap (cond (p x) (Some x)) later

  pub remove_beside : (xs : List X) → first_passing p (without_first q xs) ≡ first_passing p xs
  unfolding first_passing without_first
  remove_beside [] = refl
  remove_beside (x ∷ xs) = by_answer (q x) refl (remove_beside xs)
    where
      by_answer : (b : Bool) → q x ≡ b → first_passing p (without_first q xs) ≡ first_passing p xs
          → first_passing p (cond b xs (x ∷ without_first q xs)) ≡ cond (p x) (Some x) (first_passing p xs)
      by_answer true e later = sym (ap (λ b. cond b (Some x) (first_passing p xs)) (apart x e))
      by_answer false e later = ap (cond (p x) (Some x)) later
