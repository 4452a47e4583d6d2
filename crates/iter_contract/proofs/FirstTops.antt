-- Of lists in the order of their first entries the first begins with the first entry of their sum.
use Rattle.std.proofs.Common.{◌≡◌, ◌<◌, true, false, List, [], ◌∷◌, ◌++◌, length, map, get_or, slice_get, Some, None, refl, sym, ◌∙◌, ap, subst, arith}
use Rattle.std.specs.List.{AllByRecursion, flat_map}
use Rattle.tablet_model.specs.Cell.{Cell}
use Rattle.tablet_model.specs.Order.{above}
use Rattle.tablet_model.specs.Sorted.{sorted, Ascends, first, later}
use Rattle.tablet_model.specs.Sum.{sum_all}
use Rattle.tablet_model.proofs.Merges.{all_append, all_sorted}
use Rattle.tablet_model.proofs.Orders.{above_exact}
use Rattle.tablet_model.proofs.Sums.{below_all, put_front}
use Rattle.iter_contract.specs.Several.{comes_before, begins_behind, AreOrdered}

-- an entry sorts behind none of a list that does not begin before it
none_before : (x : Cell) (list : List Cell) → Ascends above list → comes_before (first list) (Some x) ≡ false → AllByRecursion (λ y. above x y ≡ false) list
unfolding Ascends
none_before x [] up h = tt
none_before x (y ∷ ys) up h = (h, below_all above above_exact x y ys h up.0)

all_behind : (x : Cell) (xs : List Cell) (lists : List (List Cell)) → AllByRecursion (Ascends above) lists → AllByRecursion (λ l. begins_behind (x ∷ xs) l ≡ false) lists
    → AllByRecursion (λ y. above x y ≡ false) (flat_map (λ l. l) lists)
all_behind x xs [] up h = tt
all_behind x xs (l ∷ ls) up h = all_append (λ y. above x y ≡ false) l (flat_map (λ l. l) ls) (none_before x l up.0 h.0) (all_behind x xs ls up.1 h.1)

-- the sum begins with the first entry of the first list
first_of_all : (x : Cell) (xs : List Cell) (ls : List (List Cell)) → AreOrdered ((x ∷ xs) ∷ ls) → sum_all ((x ∷ xs) ∷ ls) ≡ x ∷ sum_all (xs ∷ ls)
unfolding sum_all sorted Ascends
first_of_all x xs ls o =
    let P : Cell → Type 0 = λ y. above x y ≡ false in
    put_front above above_exact x (sorted above (xs ++ flat_map (λ l. l) ls))
    (all_sorted above above_exact P (xs ++ flat_map (λ l. l) ls)
    (all_append P xs (flat_map (λ l. l) ls) o.each.0.0 (all_behind x xs ls o.each.1 o.by_first.0)))

all_empty : (lists : List (List Cell)) → AllByRecursion (λ l. begins_behind [] l ≡ false) lists → flat_map (λ l. l) lists ≡ []
all_empty [] h = refl
all_empty ([] ∷ ls) h = all_empty ls h.1
all_empty ((x ∷ xs) ∷ ls) h = absurd (apart h.0)
  where
    apart : true ≡ false → ⊥
    apart e = cc

-- where it has none, the sum has none
none_of_all : (ls : List (List Cell)) → AreOrdered ([] ∷ ls) → sum_all ([] ∷ ls) ≡ []
unfolding sum_all sorted Ascends
none_of_all ls o = ap (sorted above) (all_empty ls o.by_first.0)

-- the first entry of the sum
pub top_of_sum : (l : List Cell) (ls : List (List Cell)) → AreOrdered (l ∷ ls) → first l ≡ first (sum_all (l ∷ ls))
top_of_sum [] ls o = ap first (sym (none_of_all ls o))
top_of_sum (x ∷ xs) ls o = ap first (sym (first_of_all x xs ls o))

-- the entries of the sum behind it
pub later_of_sum : (l : List Cell) (ls : List (List Cell)) → AreOrdered (l ∷ ls) → 0 < length (sum_all (l ∷ ls)) → sum_all (later l ∷ ls) ≡ later (sum_all (l ∷ ls))
later_of_sum [] ls o some = let none = ap length (none_of_all ls o) in absurd (omega (arith, none, some))
later_of_sum (x ∷ xs) ls o some = ap later (sym (first_of_all x xs ls o))

-- where the sum has an entry, so has the first list
pub some_first : (l : List Cell) (ls : List (List Cell)) → AreOrdered (l ∷ ls) → 0 < length (sum_all (l ∷ ls)) → 0 < length l
some_first [] ls o some = let none = ap length (none_of_all ls o) in absurd (omega (arith, none, some))
some_first (x ∷ xs) ls o some = omega arith

-- ---- sources in the order of their tops

module _ {S : Type 0} (rest : S → List Cell) where
  -- without a source there is no entry
  pub no_source : (ss : List S) → None ≡ slice_get ss 0 → None ≡ first (sum_all (map rest ss))
  unfolding sum_all sorted
  no_source [] h = refl
  no_source (s ∷ ss) h = absurd (apart h)
    where
      apart : None ≡ Some s → ⊥
      apart e = cc

  pub top_of_first : (ss : List S) (s : S) → AreOrdered (map rest ss) → Some s ≡ slice_get ss 0 → first (rest s) ≡ first (sum_all (map rest ss))
  top_of_first [] s o h = absurd (apart h)
    where
      apart : Some s ≡ None → ⊥
      apart e = cc
  top_of_first (t ∷ ts) s o h = let same : s ≡ t = inside h in ap (λ x. first (rest x)) same ∙ top_of_sum (rest t) (map rest ts) o
    where
      inside : Some s ≡ Some t → s ≡ t
      inside e = cc

  pub some_source : (ss : List S) → 0 < length (sum_all (map rest ss)) → 0 < length ss
  unfolding sum_all sorted
  some_source [] some = some
  some_source (s ∷ ss) some = omega arith

  pub some_of_first : (ss : List S) (s : S) → AreOrdered (map rest ss) → 0 < length (sum_all (map rest ss)) → s ≡ get_or ss 0 s → 0 < length (rest s)
  some_of_first [] s o some h = let none = some_source [] some in absurd (omega (arith, none))
  some_of_first (t ∷ ts) s o some h = subst (λ x. 0 < length (rest x)) (sym h) (some_first (rest t) (map rest ts) o some)
