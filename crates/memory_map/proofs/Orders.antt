-- Lists in order, one behind another.
use Rattle.std.proofs.Common.{◌≡◌, ◌+◌, ◌-◌, ◌<◌, false, List, [], ◌∷◌, ◌++◌, length, take, drop, get_or, ℕ, suc, drop-cons, Some, sym, ap, ◌∙◌, subst, append_assoc, append-nil, arith}
use Rattle.std.proofs.Math.Seq.{take-length}
use Rattle.std.proofs.lemmas.List.{drop-map, take_more}
use Rattle.std.proofs.lemmas.Option.{get_or_from_slice_get, slice_get_within}
use Rattle.std.specs.Prelude.{slice_get}
use Rattle.std.specs.Arc.{arc_value}
use Rattle.std.specs.List.{flat_map}
use Rattle.std.specs.declared.sync.Arc.{Arc}
use Rattle.tablet_model.specs.Cell.{Cell}
use Rattle.tablet_model.specs.Order.{above}
use Rattle.tablet_model.specs.Sorted.{Ascends, sorted}
use Rattle.tablet_model.proofs.Merges.{all_append, all_left, all_right}
use Rattle.tablet_model.proofs.Orders.{above_exact}
use Rattle.tablet_model.proofs.Sums.{below_all, sorted_comm, sorted_right}
use Rattle.memory_map.specs.MapRuns.{lists_of}

both_ascend : (front : List Cell) (l f : Cell) (rest : List Cell) → Ascends above (front ++ l ∷ []) → Ascends above (f ∷ rest) → above l f ≡ false → Ascends above (front ++ l ∷ f ∷ rest)
unfolding Ascends
both_ascend [] l f rest a b h = ((h, below_all above above_exact l f rest h b.0), b)
both_ascend (x ∷ xs) l f rest a b h = (all_append P xs (l ∷ f ∷ rest) (all_left P xs (l ∷ []) a.0) (here, (next, below_all above above_exact x f rest next b.0)), both_ascend xs l f rest a.1 b h)
  where
    P : Cell → Type 0
    P z = above x z ≡ false

    here : above x l ≡ false
    here = (all_right (λ z. above x z ≡ false) xs (l ∷ []) a.0).0

    next : above x f ≡ false
    next = above_exact.chain x l f (all_right (λ z. above x z ≡ false) xs (l ∷ []) a.0).0 h

-- a list and its last element
last_apart : (xs : List Cell) (l : Cell) → slice_get xs (length xs - 1) ≡ Some l → xs ≡ take (length xs - 1) xs ++ l ∷ []
last_apart xs l h =
    let inside : length xs - 1 < length xs = slice_get_within xs (length xs - 1) l h in
    let whole : length xs - 1 + 1 ≡ length xs = omega (arith, inside) in
    sym (take-length xs) ∙ sym (ap (λ n. take n xs) whole) ∙ take_more xs (length xs - 1) l inside ∙ ap (λ y. take (length xs - 1) xs ++ y ∷ []) (get_or_from_slice_get xs (length xs - 1) l l h)

-- where the first of one is not above the last of the other, both together are in order
pub ascend_behind : (xs ys : List Cell) (l f : Cell) → slice_get xs (length xs - 1) ≡ Some l → slice_get ys 0 ≡ Some f → above l f ≡ false → Ascends above xs → Ascends above ys → Ascends above (xs ++ ys)
ascend_behind xs [] l f hl hf h a b = subst (Ascends above) (sym (append-nil xs)) a
ascend_behind xs (y ∷ ys) l f hl hf h a b =
    let same : y ≡ f = grind (arith, hf) in
    let apart = last_apart xs l hl in
    let all = both_ascend (take (length xs - 1) xs) l y ys (subst (Ascends above) apart a) b (subst (λ z. above l z ≡ false) (sym same) h) in
    subst (Ascends above) (sym (ap (λ z. z ++ y ∷ ys) apart ∙ append_assoc (take (length xs - 1) xs) (l ∷ []) (y ∷ ys))) all

-- one entry alone is in order
pub one_ascends : (xs : List Cell) → length xs ≡ 1 → Ascends above xs
unfolding Ascends
one_ascends [] h = tt
one_ascends (x ∷ []) h = (tt, tt)
one_ascends (x ∷ y ∷ ys) h = absurd (omega (arith, h))

-- one list more, put behind what is there
pub one_list_more : (entries run new : List Cell) (lists : List (List Cell)) → sorted above entries ≡ sorted above (flat_map (λ l. l) lists ++ new)
    → sorted above (entries ++ run) ≡ sorted above (flat_map (λ l. l) (run ∷ lists) ++ new)
one_list_more entries run new lists h =
    sorted_comm above above_exact entries run
    ∙ sym (sorted_right above above_exact run entries)
    ∙ ap (λ l. sorted above (run ++ l)) h
    ∙ sorted_right above above_exact run (flat_map (λ l. l) lists ++ new)
    ∙ ap (sorted above) (sym (append_assoc run (flat_map (λ l. l) lists) new))

-- the list at a place, and those behind it
pub lists_from : {Z : Type 0} (runs : List (Arc (List Cell) Z)) (i : ℕ) (r : Arc (List Cell) Z) → i < length runs → r ≡ get_or runs i r → drop i (lists_of runs) ≡ arc_value r ∷ drop (i + 1) (lists_of runs)
lists_from runs i r l is =
    let next : suc i ≡ i + 1 = omega arith in
    drop-map (λ x. arc_value x) i runs
    ∙ ap (λ z. lists_of z) (drop-cons runs i r l ∙ (λ k. sym is k ∷ drop (next k) runs))
    ∙ ap (λ z. arc_value r ∷ z) (sym (drop-map (λ x. arc_value x) (i + 1) runs))
