-- Files in the order of their sizes, and the numbers of some.
use Rattle.std.proofs.Common.{◌≡◌, ℕ, zero, suc, ◌+◌, ◌-◌, ◌<◌, ◌≤◌, Bool, true, false, cond, nat_lt, List, [], ◌∷◌, ◌++◌, length, map, take, drop, get_or, Some, None, refl, sym, ap, ◌∙◌, Ordering, Equal, arith}
use Rattle.std.specs.List.{refill}
use Rattle.std.specs.List.Sorted.{IsPermutation, IsSorted}
use Rattle.std.specs.Cmp.{IsTotalOrder}
use Rattle.std.specs.Ordering.{is_gt, nat_cmp, ordering_then}
use Rattle.std.proofs.Math.Seq.{take-append_seam, take-length}
use Rattle.std.proofs.lemmas.Cmp.{back_total, nat_cmp_total, on_total, then_total}
use Rattle.std.proofs.lemmas.List.{length-drop, map-append, take_more}
use Rattle.std.proofs.lemmas.Map.Lookups.{CmpEqualImpliesEq, exact_unsigned}
use Rattle.tablet_model.proofs.Bridges.{Ascends-from_sorted, sorted-IsPermutation}
use Rattle.tablet_model.proofs.Orders.{exact_order}
use Rattle.tablet_model.proofs.Sums.{sorted_same}
use Rattle.cell_key.specs.FileNumbers.{with_number, with_numbers}
use Rattle.cell_key.proofs.Gathered.{onto_push}
use Rattle.compactor.specs.declared.file_sets.FileCount.{FileCount}
use Rattle.compactor.specs.Plans.{by_size, choice, even_set, is_even, numbers_of, set_of, size_cmp}

-- the order is total, and tells any two files apart
pub size_total : IsTotalOrder size_cmp
size_total = then_total (back_total (on_total (λ f. f.count) nat_cmp_total)) (on_total (λ f. f.id) nat_cmp_total)

both_tie : (p q : Ordering) → ordering_then p q ≡ Equal → (p ≡ Equal) × (q ≡ Equal)
both_tie p q h = grind arith

exact_sizes : CmpEqualImpliesEq size_cmp
exact_sizes f g h =
    let parts : (nat_cmp g.count f.count ≡ Equal) × (nat_cmp f.id g.id ≡ Equal) = both_tie _ _ h in
    let count : g.count ≡ f.count = exact_unsigned g.count f.count parts.0 in
    let id : f.id ≡ g.id = exact_unsigned f.id g.id parts.1 in
    λ i. record { id = id i; count = sym count i }

-- the same files, in order
pub sized : (before after : List FileCount) → IsPermutation before after → IsSorted size_cmp after → after ≡ by_size before
sized before after p h =
    sym (sorted_same (λ f g. is_gt (size_cmp f g)) (exact_order size_cmp size_total exact_sizes) after (Ascends-from_sorted size_cmp size_total after h))
    ∙ sym (sorted-IsPermutation size_cmp size_total exact_sizes before after p)

-- ---- the set

rest_of : (files : List FileCount) (i : ℕ) → take (length files - i) (drop i files) ≡ drop i files
rest_of files i = ap (λ n. take n (drop i files)) (sym (length-drop i files)) ∙ take-length (drop i files)

-- behind a file whose set is not even
pub even_behind : (files : List FileCount) (i : ℕ) → i < length files → is_even (take (length files - i) (drop i files)) ≡ false → even_set (drop i files) ≡ even_set (drop (i + 1) files)
unfolding even_set
even_behind files i l h = even_later files i l (ap is_even (sym (rest_of files i)) ∙ h) ∙ ap (λ n. even_set (drop n files)) (let e : suc i ≡ i + 1 = omega arith in e)
  where
    even_later : (files : List FileCount) (i : ℕ) → i < length files → is_even (drop i files) ≡ false → even_set (drop i files) ≡ even_set (drop (suc i) files)
    even_later [] i l h = absurd (omega (arith, l))
    even_later (f ∷ files) zero l h = ap (λ b. cond b (f ∷ files) (even_set files)) h
    even_later (f ∷ files) (suc i) l h = even_later files i (omega (arith, l)) h

pub few_even : (files : List FileCount) → length (even_set files) ≤ length files
unfolding even_set
few_even [] = omega arith
few_even (f ∷ files) = go (is_even (f ∷ files)) (few_even files)
  where
    go : (b : Bool) → length (even_set files) ≤ length files → length (cond b (f ∷ files) (even_set files)) ≤ length (f ∷ files)
    go true h = omega arith
    go false h = omega (arith, h)

-- a set has no more files than there are
pub few_set : (files : List FileCount) → length (set_of (even_set files) files) ≤ length files
few_set files = go (even_set files) (few_even files)
  where
    last : (b : Bool) → length (cond b (drop (length files - 8) files) []) ≤ length files
    last true = omega (arith, length-drop (length files - 8) files)
    last false = omega arith

    go : (set : List FileCount) → length set ≤ length files → length (set_of set files) ≤ length files
    go [] h = last (nat_lt 15 (length files))
    go (f ∷ set) h = h

-- ---- its numbers

-- no files are chosen
pub none_chosen : (files order set : List FileCount) → order ≡ by_size files → set ≡ set_of (even_set order) order → length set ≡ 0 → choice files ≡ None
unfolding choice
none_chosen files order set o s h = go (set_of (even_set (by_size files)) (by_size files)) (ap length (sym (s ∙ ap (λ l. set_of (even_set l) l) o)) ∙ h)
  where
    go : (set : List FileCount) → length set ≡ 0 → numbers_of set ≡ None
    go [] h = refl
    go (f ∷ set) h = absurd (omega (arith, h))

-- some are
pub some_chosen : (files order set : List FileCount) → order ≡ by_size files → set ≡ set_of (even_set order) order → (length set ≡ 0 → ⊥) → Some (with_numbers (map (λ f. f.id) set) []) ≡ choice files
unfolding choice
some_chosen files order set o s h = go set h ∙ ap numbers_of (s ∙ ap (λ l. set_of (even_set l) l) o)
  where
    go : (set : List FileCount) → (length set ≡ 0 → ⊥) → Some (with_numbers (map (λ f. f.id) set) []) ≡ numbers_of set
    go [] h = absurd (h refl)
    go (f ∷ set) h = refl

-- the number of one file more
pub one_more : (set : List FileCount) (i : ℕ) (d : FileCount) (ids : List ℕ) → i < length set → ids ≡ with_numbers (map (λ f. f.id) (take i set)) []
    → with_number (get_or set i d).id ids ≡ with_numbers (map (λ f. f.id) (take (i + 1) set)) []
one_more set i d ids l h =
    let f = get_or set i d in
    ap (with_number f.id) h
    ∙ sym (onto_push (map (λ f. f.id) (take i set)) [] f.id)
    ∙ ap (λ l. with_numbers l []) (sym (ap (λ l. map (λ f. f.id) l) (take_more set i d l) ∙ map-append (λ f. f.id) (take i set) (f ∷ [])))

-- ---- a list that is written over

pub written_over : (xs ws : List FileCount) → length ws ≡ length xs → refill (length xs) xs ws ≡ ws
written_over xs ws h = ap (λ n. take n (ws ++ drop (length ws) xs)) (sym h) ∙ take-append_seam ws (drop (length ws) xs)
