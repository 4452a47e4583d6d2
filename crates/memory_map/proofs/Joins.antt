-- Runs of a map of which the last ones join with new entries.
use Rattle.std.proofs.Common.{◌≡◌, ℕ, zero, suc, ◌+◌, ◌-◌, ◌*◌, ◌/◌, ◌^◌, ◌<◌, ◌≤◌, Bool, true, false, cond, List, [], ◌∷◌, ◌++◌, length, take, drop, get_or, refl, sym, ◌∙◌, ap, subst, append_assoc, append-nil, length-append, arith}
use Rattle.std.proofs.Math.Nat.{pow-le-pow_right, lt_of_not-le}
use Rattle.std.proofs.lemmas.Grind.{flat_map-append}
use Rattle.std.proofs.lemmas.List.{drop-map, get_or_default, get_or-map, get_or-take, length-map, length-take-le, take-append-drop, take-map}
use Rattle.std.proofs.lemmas.List.Concat.{length-flat_map}
use Rattle.std.proofs.lemmas.List.Sums.{sum_by-cons, sum_by-drop_more, sum_by-take-drop}
use Rattle.std.specs.Arc.{arc_value}
use Rattle.std.specs.List.{AllByRecursion, flat_map, sum_by}
use Rattle.std.specs.declared.sync.Arc.{Arc}
use Rattle.iter_contract.proofs.Elements.{all_read}
use Rattle.tablet_model.specs.Cell.{Cell}
use Rattle.tablet_model.specs.Order.{above}
use Rattle.tablet_model.specs.Runs.{AreHalving, first_size}
use Rattle.tablet_model.specs.Sorted.{Ascends, put, sorted}
use Rattle.tablet_model.specs.Sum.{sum_all, sum_of}
use Rattle.tablet_model.proofs.Merges.{all_append, all_take}
use Rattle.tablet_model.proofs.Orders.{above_exact}
use Rattle.tablet_model.proofs.Runs.{few_runs, halving_front, halving_more}
use Rattle.tablet_model.proofs.Sums.{sorted_left, sorted_right, Ascends-sorted}
use Rattle.memory_map.specs.MapRuns.{lists_of, run_of, AreRuns}

-- ---- lengths

length-put : {X : Type 0} (above : X → X → Bool) (x : X) (ys : List X) → length (put above x ys) ≡ length ys + 1
unfolding put
length-put above x [] = refl
length-put above x (y ∷ ys) = go (above x y) (length-put above x ys)
  where
    go : (b : Bool) → length (put above x ys) ≡ length ys + 1 → length (cond b (y ∷ put above x ys) (x ∷ y ∷ ys)) ≡ length (y ∷ ys) + 1
    go true h = omega (arith, h)
    go false h = omega arith

length-sorted : {X : Type 0} (above : X → X → Bool) (xs : List X) → length (sorted above xs) ≡ length xs
unfolding sorted
length-sorted above [] = refl
length-sorted above (x ∷ xs) = omega (arith, length-put above x (sorted above xs), length-sorted above xs)

-- a sum has the entries of its lists
pub length-sum_all : (lists : List (List Cell)) → length (sum_all lists) ≡ sum_by length lists
unfolding sum_all
length-sum_all lists = length-sorted above (flat_map (λ l. l) lists) ∙ length-flat_map (λ l. l) lists

pub length-sum_of : (list new : List Cell) → length (sum_of list new) ≡ length list + length new
unfolding sum_of
length-sum_of list new = length-sorted above (list ++ new) ∙ length-append list new

-- the first run is as long as half of all
half_first : (lists : List (List Cell)) → AreHalving length lists → sum_by length lists ≤ 2 * first_size length lists
half_first [] h = omega arith
half_first (l ∷ ls) h =
    let twice = h.1 in
    let behind = half_first ls h.2 in
    let whole = sum_by-cons length l ls in
    omega (arith, twice, behind, whole)

-- all runs together are short enough
pub short_sum : (lists : List (List Cell)) → AreRuns lists → sum_by length lists < 2 ^ 63
short_sum lists r = let h = half_first lists r.halving in let k = r.short in omega (arith, h, k)

-- where a power says that there are few, there are few
pub few : (n m : ℕ) → 2 ^ n ≤ m → m < 2 ^ 64 → n < 64
few n m h l = lt_of_not-le (λ k. let p : 2 ^ 64 ≤ 2 ^ n = pow-le-pow_right (omega arith) k in absurd (omega (arith, p, h, l)))

-- there are few of them
pub few_lists : (lists : List (List Cell)) → AreRuns lists → 2 ^ length lists ≤ length (sum_all lists) + 1
few_lists lists r = let same = length-sum_all lists in let h = few_runs length lists r.halving in omega (arith, same, h)

pub below_64 : (lists : List (List Cell)) → AreRuns lists → length lists < 64
below_64 lists r =
    let h = few_runs length lists r.halving in
    let s = short_sum lists r in
    few (length lists) (sum_by length lists + 1) h (omega (arith, s))

-- each is in order
pub order_read : {Z : Type 0} (runs : List (Arc (List Cell) Z)) (i : ℕ) (r : Arc (List Cell) Z) → AllByRecursion (Ascends above) (lists_of runs) → i < length runs → r ≡ get_or runs i r → Ascends above (arc_value r)
order_read runs i r h l is =
    subst (Ascends above) (get_or-map (λ x. arc_value x) runs i r [] l ∙ ap (λ x. arc_value x) (sym is))
    (all_read (Ascends above) (lists_of runs) i [] h (omega (arith, l, length-map runs (λ x. arc_value x))))

-- ---- how many join

-- the length of the run at a place
length_read : {Z : Type 0} (runs : List (Arc (List Cell) Z)) (i : ℕ) (r : Arc (List Cell) Z) → i < length runs → r ≡ get_or runs i r → length (get_or (lists_of runs) i []) ≡ length (arc_value r)
length_read runs i r l is = ap length (get_or-map (λ x. arc_value x) runs i r [] l ∙ ap (λ x. arc_value x) (sym is))

-- one run more joins
pub one_more : {Z : Type 0} (runs : List (Arc (List Cell) Z)) (kept size added : ℕ) (r : Arc (List Cell) Z) → 0 < kept → kept ≤ length runs → r ≡ get_or runs (kept - 1) r
    → size ≡ added + sum_by length (drop kept (lists_of runs)) → size + length (arc_value r) ≡ added + sum_by length (drop (kept - 1) (lists_of runs))
one_more runs kept size added r some inside is counted =
    let here = length_read runs (kept - 1) r (omega arith) is in
    let all : kept - 1 < length (lists_of runs) = omega (arith, length-map runs (λ x. arc_value x)) in
    let more = sum_by-drop_more length (lists_of runs) (kept - 1) [] all in
    let next : kept - 1 + 1 ≡ kept = omega arith in
    let behind = ap (λ j. sum_by length (drop j (lists_of runs))) next in
    omega (arith, here, more, behind, counted)

-- what has joined is a part of all
pub part_of_all : {Z : Type 0} (runs : List (Arc (List Cell) Z)) (kept : ℕ) → AreRuns (lists_of runs) → sum_by length (drop kept (lists_of runs)) < 2 ^ 63
part_of_all runs kept r =
    let all = short_sum (lists_of runs) r in
    let parts = sum_by-take-drop length (lists_of runs) kept in
    omega (arith, all, parts)

-- the run before those that join is long enough
pub twice_here : {Z : Type 0} (runs : List (Arc (List Cell) Z)) (kept size : ℕ) (r : Arc (List Cell) Z) → 0 < kept → kept ≤ length runs → r ≡ get_or runs (kept - 1) r
    → size ≤ length (arc_value r) / 2 → (i : ℕ) → i + 1 ≡ kept → 2 * size ≤ length (get_or (lists_of runs) i [])
twice_here runs kept size r some inside is long i e =
    let at : i ≡ kept - 1 = omega arith in
    let there = ap (λ j. length (get_or (lists_of runs) j [])) at in
    let here = length_read runs (kept - 1) r (omega arith) is in
    omega (arith, here, there, long)

-- ---- the runs with those behind a place joined

-- what stays and what joins, by the lists of the runs
pub kept_lists : {Z : Type 0} (runs kept : List (Arc (List Cell) Z)) (k : ℕ) → kept ≡ take k runs → lists_of kept ≡ take k (lists_of runs)
kept_lists runs kept k front = ap (λ l. lists_of l) front ∙ sym (take-map (λ x. arc_value x) k runs)

pub other_lists : {Z : Type 0} (runs others : List (Arc (List Cell) Z)) (k : ℕ) → others ≡ drop k runs → lists_of others ≡ drop k (lists_of runs)
other_lists runs others k back = ap (λ l. lists_of l) back ∙ sym (drop-map (λ x. arc_value x) k runs)

length-run_of : (lists : List (List Cell)) (new : List Cell) → length (run_of lists new) ≡ length new + sum_by length lists
length-run_of lists new = omega (arith, length-sorted above (flat_map (λ l. l) lists ++ new), length-append (flat_map (λ l. l) lists) new, length-flat_map (λ l. l) lists)

first_fits : (k : ℕ) (lists : List (List Cell)) (run : List Cell) → first_size length lists < 2 ^ 62 → length run < 2 ^ 62 → first_size length (take k lists ++ run ∷ []) < 2 ^ 62
first_fits zero lists run f s = s
first_fits (suc k) [] run f s = s
first_fits (suc k) (l ∷ ls) run f s = f

-- they are runs again
pub joined_runs : (lists : List (List Cell)) (k size : ℕ) (new : List Cell) → AreRuns lists → k ≤ length lists → size ≡ length new + sum_by length (drop k lists) → 1 ≤ length new
    → ((i : ℕ) → i + 1 ≡ k → 2 * size ≤ length (get_or lists i [])) → length (run_of (drop k lists) new) < 2 ^ 62 → AreRuns (take k lists ++ run_of (drop k lists) new ∷ [])
joined_runs lists k size new r inside counted some twice fits = record {
  each = all_append (Ascends above) (take k lists) (run ∷ []) (all_take (Ascends above) k lists r.each) (Ascends-sorted above above_exact (flat_map (λ l. l) (drop k lists) ++ new), tt);
  halving = halving_more length (take k lists) run (halving_front length (take k lists) (drop k lists) (subst (AreHalving length) (sym (take-append-drop k lists)) r.halving)) (omega (arith, long)) half;
  short = first_fits k lists run r.short fits;
}
  where
    run : List Cell
    run = run_of (drop k lists) new

    long : length (run_of (drop k lists) new) ≡ length new + sum_by length (drop k lists)
    long = length-run_of (drop k lists) new

    kept : length (take k lists) ≡ k
    kept = length-take-le k lists inside

    half : (i : ℕ) → i + 1 ≡ length (take k lists) → 2 * length (run_of (drop k lists) new) ≤ length (get_or (take k lists) i (run_of (drop k lists) new))
    half i e =
        let at : i < k = omega (arith, e, kept) in
        let there = get_or-take k lists i (run_of (drop k lists) new) at in
        let same : get_or lists i (run_of (drop k lists) new) ≡ get_or lists i [] = get_or_default lists i (run_of (drop k lists) new) [] (omega (arith, at, inside)) in
        let long' = ap length (there ∙ same) in
        let bound = twice i (omega (arith, e, kept)) in
        omega (arith, long, counted, long', bound)

-- and their sum has the new entries
pub joined_sum : (lists : List (List Cell)) (k : ℕ) (new : List Cell) → sum_all (take k lists ++ run_of (drop k lists) new ∷ []) ≡ sum_of (sum_all lists) new
unfolding sum_all sum_of
joined_sum lists k new =
    ap (sorted above) (flat_map-append (λ l. l) (take k lists) (run_of (drop k lists) new ∷ []) ∙ ap (λ l. flat (take k lists) ++ l) (append-nil (run_of (drop k lists) new)))
    ∙ sorted_right above above_exact (flat (take k lists)) (flat (drop k lists) ++ new)
    ∙ ap (sorted above) (sym (append_assoc (flat (take k lists)) (flat (drop k lists)) new) ∙ ap (λ l. l ++ new) (sym (flat_map-append (λ l. l) (take k lists) (drop k lists)) ∙ ap flat (take-append-drop k lists)))
    ∙ sym (sorted_left above above_exact (flat lists) new)
  where
    flat : List (List Cell) → List Cell
    flat l = flat_map (λ x. x) l
