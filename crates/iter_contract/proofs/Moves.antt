-- What sources keep that are put elsewhere among others.
use Rattle.std.proofs.Common.{◌≡◌, ℕ, zero, suc, ◌+◌, ◌-◌, ◌<◌, ◌≤◌, ◌&&◌, Bool, true, false, cond, List, [], ◌∷◌, ◌++◌, length, get_or, set, map, take, drop, append-nil, append_assoc, refl, sym, ◌∙◌, ap, subst, arith}
use Rattle.std.proofs.Math.ListN.{drop_of_length-le}
use Rattle.std.proofs.Math.Seq.{take-length, drop-length}
use Rattle.std.proofs.lemmas.List.{length-drop, take_rest}
use borrow.Rule.Slice.PartMut.{put_mid}
use Rattle.std.specs.List.{AllByRecursion, flat_map, prefix_len}
use Rattle.tablet_model.specs.Cell.{Cell}
use Rattle.tablet_model.specs.Order.{above}
use Rattle.tablet_model.specs.Sorted.{put, sorted, Ascends, later}
use Rattle.tablet_model.specs.Sum.{sum_all}
use Rattle.tablet_model.proofs.Orders.{above_exact}
use Rattle.tablet_model.proofs.Sums.{all_weaker, sorted_comm, sorted_left, sorted_right}
use Rattle.iter_contract.specs.Several.{all_steady, begins_behind, has_later_top, settled, AreOrdered}
use Rattle.iter_contract.proofs.FirstTops.{later_of_sum}

-- ---- the order of lists by their first entries

either : (l m : List Cell) → begins_behind l m ≡ true → begins_behind m l ≡ false
either l [] h = absurd (none h)
  where
    none : false ≡ true → ⊥
    none e = cc
either [] (y ∷ ys) h = refl
either (x ∷ xs) (y ∷ ys) h = above_exact.either x y h

chain : (l m n : List Cell) → begins_behind l m ≡ false → begins_behind m n ≡ false → begins_behind l n ≡ false
chain l m [] h k = refl
chain l [] (z ∷ zs) h k = absurd (apart k)
  where
    apart : true ≡ false → ⊥
    apart e = cc
chain [] (y ∷ ys) (z ∷ zs) h k = absurd (apart h)
  where
    apart : true ≡ false → ⊥
    apart e = cc
chain (x ∷ xs) (y ∷ ys) (z ∷ zs) h k = above_exact.chain x y z h k

-- ---- sums

sum_behind : (l : List Cell) (ls ms : List (List Cell)) → sum_all ls ≡ sum_all ms → sum_all (l ∷ ls) ≡ sum_all (l ∷ ms)
unfolding sum_all
sum_behind l ls ms h =
    sym (sorted_right above above_exact l (flat_map (λ l. l) ls)) ∙ ap (λ r. sorted above (l ++ r)) h ∙ sorted_right above above_exact l (flat_map (λ l. l) ms)

swap_parts : (a b r : List Cell) → sorted above (a ++ (b ++ r)) ≡ sorted above (b ++ (a ++ r))
swap_parts a b r =
    ap (sorted above) (sym (append_assoc a b r))
    ∙ sym (sorted_left above above_exact (a ++ b) r)
    ∙ ap (λ l. sorted above (l ++ r)) (sorted_comm above above_exact a b)
    ∙ sorted_left above above_exact (b ++ a) r
    ∙ ap (sorted above) (append_assoc b a r)

sum_swap : (l m : List Cell) (ls : List (List Cell)) → sum_all (l ∷ m ∷ ls) ≡ sum_all (m ∷ l ∷ ls)
unfolding sum_all
sum_swap l m ls = swap_parts l m (flat_map (λ l. l) ls)

-- ---- a value put among others, by any test

module _ {X : Type 0} (behind : X → X → Bool) where
  -- it stands behind the first ones that it is behind
  pub put_at : (x : X) (ys : List X) → put behind x ys ≡ take (prefix_len (behind x) ys) ys ++ x ∷ drop (prefix_len (behind x) ys) ys
  unfolding put
  put_at x [] = refl
  put_at x (y ∷ ys) = go (behind x y) (put_at x ys)
    where
      go : (b : Bool) → put behind x ys ≡ take (prefix_len (behind x) ys) ys ++ x ∷ drop (prefix_len (behind x) ys) ys
          → cond b (y ∷ put behind x ys) (x ∷ y ∷ ys) ≡ take (cond b (1 + prefix_len (behind x) ys) 0) (y ∷ ys) ++ x ∷ drop (cond b (1 + prefix_len (behind x) ys) 0) (y ∷ ys)
      go true h =
          let next : suc (prefix_len (behind x) ys) ≡ 1 + prefix_len (behind x) ys = omega arith in
          subst (λ n. y ∷ put behind x ys ≡ take n (y ∷ ys) ++ x ∷ drop n (y ∷ ys)) next (ap (λ l. y ∷ l) h)
      go false h = refl

  -- what is said of all is said of all still
  pub put_all : (P : X → Type 0) (x : X) (ys : List X) → P x → AllByRecursion P ys → AllByRecursion P (put behind x ys)
  unfolding put
  put_all P x [] here all = (here, tt)
  put_all P x (y ∷ ys) here all = go (behind x y) (put_all P x ys here all.1)
    where
      go : (b : Bool) → AllByRecursion P (put behind x ys) → AllByRecursion P (cond b (y ∷ put behind x ys) (x ∷ y ∷ ys))
      go true h = (all.0, h)
      go false h = (here, all)

  pub sorted_all : (P : X → Type 0) (xs : List X) → AllByRecursion P xs → AllByRecursion P (sorted behind xs)
  unfolding sorted
  sorted_all P [] all = tt
  sorted_all P (x ∷ xs) all = put_all P x (sorted behind xs) all.0 (sorted_all P xs all.1)

  -- before any is put
  pub unsorted : (xs : List X) → xs ≡ take (length xs) xs ++ sorted behind (drop (length xs) xs)
  unfolding sorted
  unsorted xs = sym (ap (λ l. take (length xs) xs ++ sorted behind l) (drop-length xs) ∙ append-nil (take (length xs) xs) ∙ take-length xs)

  steady_step : (a b c d : Bool) → c ≡ (a && d) → (b && c) ≡ (a && (b && d))
  steady_step a b c d h = grind arith

  pub put_steady : (steady : X → Bool) (x : X) (ys : List X) → all_steady steady (put behind x ys) ≡ all_steady steady (x ∷ ys)
  unfolding put
  put_steady steady x [] = refl
  put_steady steady x (y ∷ ys) = go (behind x y) (put_steady steady x ys)
    where
      go : (b : Bool) → all_steady steady (put behind x ys) ≡ all_steady steady (x ∷ ys) → all_steady steady (cond b (y ∷ put behind x ys) (x ∷ y ∷ ys)) ≡ all_steady steady (x ∷ y ∷ ys)
      go true h = steady_step (steady x) (steady y) (all_steady steady (put behind x ys)) (all_steady steady ys) h
      go false h = refl

  pub sorted_steady : (steady : X → Bool) (xs : List X) → all_steady steady (sorted behind xs) ≡ all_steady steady xs
  unfolding sorted
  sorted_steady steady [] = refl
  sorted_steady steady (x ∷ xs) = put_steady steady x (sorted behind xs) ∙ ap (λ b. steady x && b) (sorted_steady steady xs)

  -- its sum is the same
  pub put_sum : (f : X → List Cell) (x : X) (ys : List X) → sum_all (map f (put behind x ys)) ≡ sum_all (map f (x ∷ ys))
  unfolding put
  put_sum f x [] = refl
  put_sum f x (y ∷ ys) = go (behind x y) (put_sum f x ys)
    where
      go : (b : Bool) → sum_all (map f (put behind x ys)) ≡ sum_all (map f (x ∷ ys)) → sum_all (map f (cond b (y ∷ put behind x ys) (x ∷ y ∷ ys))) ≡ sum_all (map f (x ∷ y ∷ ys))
      go true h = sum_behind (f y) (map f (put behind x ys)) (f x ∷ map f ys) h ∙ sum_swap (f y) (f x) (map f ys)
      go false h = refl

  pub sorted_sum : (f : X → List Cell) (xs : List X) → sum_all (map f (sorted behind xs)) ≡ sum_all (map f xs)
  unfolding sorted
  sorted_sum f [] = refl
  sorted_sum f (x ∷ xs) = put_sum f x (sorted behind xs) ∙ sum_behind (f x) (map f (sorted behind xs)) (map f xs) (sorted_sum f xs)

-- ---- lists put in the order of their first entries

below : (l m : List Cell) (ls : List (List Cell)) → begins_behind l m ≡ false → AllByRecursion (λ n. begins_behind m n ≡ false) ls → AllByRecursion (λ n. begins_behind l n ≡ false) ls
below l m ls h all = all_weaker (λ n. begins_behind m n ≡ false) (λ n. begins_behind l n ≡ false) (λ n k. chain l m n h k) ls all

put_ascends : (l : List Cell) (ls : List (List Cell)) → Ascends begins_behind ls → Ascends begins_behind (put begins_behind l ls)
unfolding put Ascends
put_ascends l [] up = (tt, tt)
put_ascends l (m ∷ ms) up = go (begins_behind l m) refl (put_ascends l ms up.1)
  where
    go : (b : Bool) → begins_behind l m ≡ b → Ascends begins_behind (put begins_behind l ms) → Ascends begins_behind (cond b (m ∷ put begins_behind l ms) (l ∷ m ∷ ms))
    go true e up' = (put_all begins_behind (λ n. begins_behind m n ≡ false) l ms (either l m e) up.0, up')
    go false e up' = ((e, below l m ms e up.0), up)

sorted_ascends : (ls : List (List Cell)) → Ascends begins_behind (sorted begins_behind ls)
unfolding sorted Ascends
sorted_ascends [] = tt
sorted_ascends (l ∷ ls) = put_ascends l (sorted begins_behind ls) (sorted_ascends ls)

module _ {S : Type 0} (rest : S → List Cell) where
  map_put : (s : S) (ss : List S) → map rest (put (has_later_top rest) s ss) ≡ put begins_behind (rest s) (map rest ss)
  unfolding put
  map_put s [] = refl
  map_put s (t ∷ ts) = go (has_later_top rest s t) (map_put s ts)
    where
      go : (b : Bool) → map rest (put (has_later_top rest) s ts) ≡ put begins_behind (rest s) (map rest ts)
          → map rest (cond b (t ∷ put (has_later_top rest) s ts) (s ∷ t ∷ ts)) ≡ cond b (rest t ∷ put begins_behind (rest s) (map rest ts)) (rest s ∷ rest t ∷ map rest ts)
      go true h = ap (λ l. rest t ∷ l) h
      go false h = refl

  map_sorted : (ss : List S) → map rest (sorted (has_later_top rest) ss) ≡ sorted begins_behind (map rest ss)
  unfolding sorted
  map_sorted [] = refl
  map_sorted (s ∷ ss) = map_put s (sorted (has_later_top rest) ss) ∙ ap (put begins_behind (rest s)) (map_sorted ss)

  -- sources in the order of their tops
  pub sorted_ordered : (ss : List S) → AllByRecursion (Ascends above) (map rest ss) → AreOrdered (map rest (sorted (has_later_top rest) ss))
  sorted_ordered ss up =
      subst AreOrdered (sym (map_sorted ss)) (record {
        each = sorted_all begins_behind (Ascends above) (map rest ss) up;
        by_first = sorted_ascends (map rest ss);
      })

  -- one of them settled
  settled_ordered : (s : S) (ss : List S) → Ascends above (rest s) → AllByRecursion (Ascends above) (map rest ss) → Ascends begins_behind (map rest ss) → AreOrdered (map rest (put (has_later_top rest) s ss))
  settled_ordered s ss here up by_first =
      subst AreOrdered (sym (map_put s ss)) (record {
        each = put_all begins_behind (Ascends above) (rest s) (map rest ss) here up;
        by_first = put_ascends (rest s) (map rest ss) by_first;
      })

  later_ascends : (list : List Cell) → Ascends above list → Ascends above (later list)
  unfolding Ascends
  later_ascends [] up = tt
  later_ascends (x ∷ xs) up = up.1

  others : (l : List Cell) (ls : List (List Cell)) → Ascends begins_behind (l ∷ ls) → Ascends begins_behind ls
  unfolding Ascends
  others l ls up = up.1

  -- after a step of the first
  pub stepped_ordered : (ss : List S) (s d : S) → AreOrdered (map rest ss) → 0 < length ss → rest s ≡ later (rest (get_or ss 0 d)) → AreOrdered (map rest (settled rest (set ss 0 s)))
  stepped_ordered [] s d o l h = absurd (omega arith)
  stepped_ordered (t ∷ ts) s d o l h =
      settled_ordered s ts (subst (Ascends above) (sym h) (later_ascends (rest t) o.each.0)) o.each.1 (others (rest t) (map rest ts) o.by_first)

  pub settled_sum : (f : S → List Cell) (ss : List S) → sum_all (map f (settled rest ss)) ≡ sum_all (map f ss)
  settled_sum f [] = refl
  settled_sum f (s ∷ ss) = put_sum (has_later_top rest) f s ss

  pub settled_steady : (steady : S → Bool) (ss : List S) → all_steady steady (settled rest ss) ≡ all_steady steady ss
  settled_steady steady [] = refl
  settled_steady steady (s ∷ ss) = put_steady (has_later_top rest) steady s ss

  pub settled_all : (P : S → Type 0) (ss : List S) → AllByRecursion P ss → AllByRecursion P (settled rest ss)
  settled_all P [] all = tt
  settled_all P (s ∷ ss) all = put_all (has_later_top rest) P s ss all.0 all.1

  pub stepped_sum : (ss : List S) (s d : S) → AreOrdered (map rest ss) → 0 < length (sum_all (map rest ss)) → rest s ≡ later (rest (get_or ss 0 d)) → sum_all (map rest (settled rest (set ss 0 s))) ≡ later (sum_all (map rest ss))
  unfolding sum_all sorted
  stepped_sum [] s d o some h = absurd (omega arith)
  stepped_sum (t ∷ ts) s d o some h =
      put_sum (has_later_top rest) rest s ts ∙ ap (λ l. sum_all (l ∷ map rest ts)) h ∙ later_of_sum (rest t) (map rest ts) o some

  placed_before : (ss : List S) (p n : ℕ) → n ≡ suc p → p < length ss
      → take p (take n ss ++ sorted (has_later_top rest) (drop n ss)) ++ settled rest (drop p (take n ss ++ sorted (has_later_top rest) (drop n ss))) ≡ take p ss ++ sorted (has_later_top rest) (drop p ss)
  unfolding sorted
  placed_before ss p n e l =
      subst (λ m. take p (take m ss ++ sorted (has_later_top rest) (drop m ss)) ++ settled rest (drop p (take m ss ++ sorted (has_later_top rest) (drop m ss))) ≡ take p ss ++ sorted (has_later_top rest) (drop p ss)) (sym e) (go ss p l)
    where
      go : (ss : List S) (p : ℕ) → p < length ss
          → take p (take (suc p) ss ++ sorted (has_later_top rest) (drop (suc p) ss)) ++ settled rest (drop p (take (suc p) ss ++ sorted (has_later_top rest) (drop (suc p) ss))) ≡ take p ss ++ sorted (has_later_top rest) (drop p ss)
      go [] p l = absurd (omega arith)
      go (s ∷ ss) zero l = refl
      go (s ∷ ss) (suc p) l = ap (λ xs. s ∷ xs) (go ss p (omega arith))

  behind_end : (p : ℕ) (ss new : List S) → p ≤ length ss → put_mid p (length ss - p) ss new ≡ take p ss ++ new
  behind_end p ss new l =
      let none = drop_of_length-le (drop p ss) {i = length ss - p} (omega (arith, length-drop p ss)) in
      ap (λ l. take p ss ++ (new ++ l)) none ∙ ap (λ l. take p ss ++ l) (append-nil new)

  -- those behind a place in order, and then the one before them settled
  pub placed : (ss now new : List S) (p n : ℕ) → n ≡ suc p → p < length ss → length now ≡ length ss
      → now ≡ take n ss ++ sorted (has_later_top rest) (drop n ss) → new ≡ settled rest (take (length now - p) (drop p now)) → put_mid p (length now - p) now new ≡ take p ss ++ sorted (has_later_top rest) (drop p ss)
  placed ss now new p n e l long is settles =
      behind_end p now new (omega arith)
      ∙ ap (λ l. take p now ++ l) (settles ∙ ap (settled rest) (take_rest now p))
      ∙ ap (λ l. take p l ++ settled rest (drop p l)) is
      ∙ placed_before ss p n e l

  -- the first moved behind the others that are not behind it
  pub rotated : (ss others : List S) (s : S) (n : ℕ) → ss ≡ s ∷ others → n ≡ prefix_len (has_later_top rest s) others
      → drop 1 (take (n + 1) ss) ++ take 1 (take (n + 1) ss) ++ drop (n + 1) ss ≡ settled rest ss
  rotated ss others s n e m = subst (λ xs. drop 1 (take (n + 1) xs) ++ take 1 (take (n + 1) xs) ++ drop (n + 1) xs ≡ settled rest xs) (sym e) (go (n + 1) (omega arith))
    where
      go : (k : ℕ) → k ≡ suc n → drop 1 (take k (s ∷ others)) ++ take 1 (take k (s ∷ others)) ++ drop k (s ∷ others) ≡ put (has_later_top rest) s others
      go k h =
          subst (λ i. drop 1 (take i (s ∷ others)) ++ take 1 (take i (s ∷ others)) ++ drop i (s ∷ others) ≡ put (has_later_top rest) s others) (sym h)
          (append_assoc (take n others) (s ∷ []) (drop n others) ∙ ap (λ i. take i others ++ s ∷ drop i others) m ∙ sym (put_at (has_later_top rest) s others))
