-- What std's stable sort by a key makes is the list that the definition of sorted lists says.
use Rattle.std.proofs.Common.{◌≡◌, ℕ, suc, ◌≤◌, ◌==◌, Bool, true, false, not, ◌&&◌, cond, List, [], ◌∷◌, get_or, nat_cmp, refl, sym, ap, ◌∙◌, subst, arith}
use Rattle.std.proofs.lemmas.Bool.Decides.{nat_tests}
use Rattle.std.proofs.lemmas.List.Elements.{recursion_from_All}
use Rattle.std.specs.Prelude.{nat_lt}
use Rattle.std.specs.Ordering.{is_lt}
use Rattle.std.specs.List.Sorted.{IsNonDecreasingBy, IsStableByKey, ties}
use Rattle.std.specs.List.{AllByRecursion, filter}
use Rattle.tablet_model.specs.Sorted.{put, sorted, Ascends}
use Rattle.tablet_model.proofs.Sums.{cons_same, nil_cons}

module _ {X : Type 0} (key : X → ℕ) where
  abbrev behind : X → X → Bool
  behind x y = nat_lt (key y) (key x)

  abbrev tied : X → X → Bool
  tied x y = key x == key y

  all_put : (P : X → Type 0) (x : X) (ys : List X) → P x → AllByRecursion P ys → AllByRecursion P (put behind x ys)
  unfolding put
  all_put P x [] here rest = (here, tt)
  all_put P x (y ∷ ys) here rest = go (behind x y) (all_put P x ys here rest.1)
    where
      go : (b : Bool) → AllByRecursion P (put behind x ys) → AllByRecursion P (cond b (y ∷ put behind x ys) (x ∷ y ∷ ys))
      go true below = (rest.0, below)
      go false below = (here, rest)

  chain : (x y z : X) → behind x y ≡ false → behind y z ≡ false → behind x z ≡ false
  chain x y z h k = grind (arith, nat_tests)

  either : (x y : X) → behind x y ≡ true → behind y x ≡ false
  either x y h = grind (arith, nat_tests)

  below_all : (x y : X) (ys : List X) → behind x y ≡ false → AllByRecursion (λ z. behind y z ≡ false) ys → AllByRecursion (λ z. behind x z ≡ false) ys
  below_all x y [] h rest = tt
  below_all x y (z ∷ zs) h rest = (chain x y z h rest.0, below_all x y zs h rest.1)

  Ascends-put : (x : X) (ys : List X) → Ascends behind ys → Ascends behind (put behind x ys)
  unfolding put Ascends
  Ascends-put x [] h = (tt, tt)
  Ascends-put x (y ∷ ys) h = go (behind x y) refl (Ascends-put x ys h.1)
    where
      go : (b : Bool) → behind x y ≡ b → Ascends behind (put behind x ys) → Ascends behind (cond b (y ∷ put behind x ys) (x ∷ y ∷ ys))
      go true e later = (all_put (λ z. behind y z ≡ false) x ys (either x y e) h.0, later)
      go false e later = ((e, below_all x y ys e h.0), h)

  Ascends-sorted : (xs : List X) → Ascends behind (sorted behind xs)
  unfolding sorted Ascends
  Ascends-sorted [] = tt
  Ascends-sorted (x ∷ xs) = Ascends-put x (sorted behind xs) (Ascends-sorted xs)

  part_put_step : (c x y : X) (ys : List X) → filter (tied c) (put behind x ys) ≡ filter (tied c) (x ∷ ys) → filter (tied c) (put behind x (y ∷ ys)) ≡ filter (tied c) (x ∷ y ∷ ys)
  unfolding put
  part_put_step c x y ys ih = grind (arith, nat_tests)

  part_put : (c x : X) (ys : List X) → filter (tied c) (put behind x ys) ≡ filter (tied c) (x ∷ ys)
  unfolding put
  part_put c x [] = refl
  part_put c x (y ∷ ys) = part_put_step c x y ys (part_put c x ys)

  -- elements of one key keep their order
  part_sorted : (c : X) (xs : List X) → filter (tied c) (sorted behind xs) ≡ filter (tied c) xs
  unfolding sorted
  part_sorted c [] = refl
  part_sorted c (x ∷ xs) = part_put c x (sorted behind xs) ∙ ap (λ l. cond (tied c x) (x ∷ l) l) (part_sorted c xs)

  head_part : (p : X → Bool) (y x : X) (ys rest : List X) → AllByRecursion (λ z. behind y z ≡ false) ys → filter p ys ≡ x ∷ rest → behind y x ≡ false
  head_part p y x [] rest h e = absurd (nil_cons x rest e)
  head_part p y x (z ∷ zs) rest h e = go (p z) e (head_part p y x zs rest h.1)
    where
      go : (b : Bool) → cond b (z ∷ filter p zs) (filter p zs) ≡ x ∷ rest → (filter p zs ≡ x ∷ rest → behind y x ≡ false) → behind y x ≡ false
      go true k ih = subst (λ w. behind y w ≡ false) (cons_same z x (filter p zs) rest k).0 h.0
      go false k ih = ih k

  itself : (x : X) → behind x x ≡ false
  itself x = grind (arith, nat_tests)

  tied_itself : (x : X) → tied x x ≡ true
  tied_itself x = grind (arith, nat_tests)

  level : (x y : X) → behind x y ≡ false → behind y x ≡ false → tied x y ≡ true
  level x y h k = grind (arith, nat_tests)

  part_first : (c x : X) (xs : List X) → tied c x ≡ true → filter (tied c) (x ∷ xs) ≡ x ∷ filter (tied c) xs
  part_first c x xs h = rw h refl

  part_rest : (p : X → Bool) (x : X) (xs ys : List X) (b : Bool) → cond b (x ∷ filter p xs) (filter p xs) ≡ cond b (x ∷ filter p ys) (filter p ys) → filter p xs ≡ filter p ys
  part_rest p x xs ys true h = (cons_same x x (filter p xs) (filter p ys) h).1
  part_rest p x xs ys false h = h

  -- two lists that ascend are the same if the elements of each key are
  same_by_parts : (xs ys : List X) → Ascends behind xs → Ascends behind ys → ((c : X) → filter (tied c) xs ≡ filter (tied c) ys) → xs ≡ ys
  unfolding Ascends
  same_by_parts [] [] ax ay parts = refl
  same_by_parts [] (y ∷ ys) ax ay parts = absurd (nil_cons y (filter (tied y) ys) (parts y ∙ part_first y y ys (tied_itself y)))
  same_by_parts (x ∷ xs) [] ax ay parts = absurd (nil_cons x (filter (tied x) xs) (sym (parts x) ∙ part_first x x xs (tied_itself x)))
  same_by_parts (x ∷ xs) (y ∷ ys) ax ay parts =
      let low : behind x y ≡ false = head_part (tied y) x y (x ∷ xs) (filter (tied y) ys) (itself x, ax.0) (parts y ∙ part_first y y ys (tied_itself y)) in
      let high : behind y x ≡ false = head_part (tied x) y x (y ∷ ys) (filter (tied x) xs) (itself y, ay.0) (sym (parts x) ∙ part_first x x xs (tied_itself x)) in
      let e : x ≡ y = (cons_same x y (filter (tied x) xs) (filter (tied x) ys) (sym (part_first x x xs (tied_itself x)) ∙ parts x ∙ part_first x y ys (level x y low high))).0 in
      ap (λ z. z ∷ xs) e ∙ ap (λ zs. y ∷ zs) (same_by_parts xs ys ax.1 ay.1 (λ c. part_rest (tied c) x xs ys (tied c x) (parts c ∙ ap (λ z. filter (tied c) (z ∷ ys)) (sym e))))

  filter_alike : (p q : X → Bool) → ((x : X) → p x ≡ q x) → (xs : List X) → filter p xs ≡ filter q xs
  filter_alike p q h [] = refl
  filter_alike p q h (x ∷ xs) = ap (λ b. cond b (x ∷ filter p xs) (filter p xs)) (h x) ∙ ap (λ l. cond (q x) (x ∷ l) l) (filter_alike p q h xs)

  low : (x y : X) → key x ≤ key y → behind x y ≡ false
  low x y h = grind (arith, nat_tests)

  Ascends-from_keys : (xs : List X) → IsNonDecreasingBy key xs → Ascends behind xs
  unfolding Ascends
  Ascends-from_keys [] h = tt
  Ascends-from_keys (x ∷ xs) h = (
    recursion_from_All (λ y. behind x y ≡ false) xs (λ k d lt. low x (get_or xs k d) (h 0 (suc k) d (omega arith) (omega arith))),
    Ascends-from_keys xs (λ i j d le lt. h (suc i) (suc j) d (omega arith) (omega arith)),
  )

  -- the test by which std's sort ties two elements
  std_tied : X → X → Bool
  std_tied = ties (λ x y. is_lt (nat_cmp (key x) (key y)))

  tied_alike : (x y : X) → std_tied x y ≡ tied x y
  unfolding std_tied
  tied_alike x y = tests (key x) (key y)
    where
      tests : (a b : ℕ) → not (is_lt (nat_cmp a b)) && not (is_lt (nat_cmp b a)) ≡ (a == b)
      tests a b = grind (arith, nat_tests)

  -- a stable sort by keys is the sorted list
  pub sorted-sort_by_key : (xs ys : List X) → IsNonDecreasingBy key ys → IsStableByKey key nat_cmp xs ys → ys ≡ sorted behind xs
  unfolding std_tied
  sorted-sort_by_key xs ys up stable =
      same_by_parts ys (sorted behind xs) (Ascends-from_keys ys up) (Ascends-sorted xs) (λ c.
      sym (filter_alike (std_tied c) (tied c) (tied_alike c) ys)
      ∙ stable c
      ∙ filter_alike (std_tied c) (tied c) (tied_alike c) xs
      ∙ sym (part_sorted c xs))
