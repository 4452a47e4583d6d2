-- Entries beyond others, by keys or by rows, and what is left behind one.
use Rattle.std.proofs.Common.{◌≡◌, Bool, true, false, cond, List, [], ◌∷◌, ◌++◌, refl, sym, ap, ◌∙◌, subst, arith}
use Rattle.std.specs.declared.cmp.Ordering.{Ordering}
use Rattle.std.specs.List.{AllByRecursion, filter}
use Rattle.std.specs.Ordering.{is_gt, is_eq, ordering_reverse}
use Rattle.std.proofs.lemmas.Cmp.{nat_list_cmp_total}
use Rattle.tablet_model.specs.Cell.{Cell}
use Rattle.tablet_model.specs.Order.{key_cmp, bytes_cmp, above}
use Rattle.tablet_model.specs.Places.{Place, Start, AfterKey, AfterRow, is_after, after}
use Rattle.tablet_model.specs.Sorted.{Ascends}
use Rattle.tablet_model.proofs.Combines.{filter_all}
use Rattle.tablet_model.proofs.CutLemmas.{gt_up, row_le, key_le, GoesUp}
use Rattle.tablet_model.proofs.Orders.{key_total, above_exact}
use Rattle.tablet_model.proofs.Risings.{filter_in}
use Rattle.tablet_model.proofs.Sums.{Ascends-filter, all_weaker}
use Rattle.scan_session.specs.Takes.{Mode, plain, isolated, together, behind, last_of, place_after}
use Rattle.scan_session.specs.Walks.{EndsWell}

pub both_ways : {b : Bool} → b ≡ true → b ≡ false → ⊥
both_ways h k = grind arith

-- whether a is beyond b, by keys or by rows
abbrev pub beyond : Mode → Cell → Cell → Bool
beyond plain a b = is_gt (key_cmp a.key b.key)
beyond isolated a b = is_gt (bytes_cmp a.key.row b.key.row)

-- an entry is not beyond one that it isn't above
pub not_beyond : (mode : Mode) (a b : Cell) → above a b ≡ false → beyond mode a b ≡ false
not_beyond plain a b h = key_le a b h
not_beyond isolated a b h = row_le a.key b.key (key_le a b h)

-- what is behind an entry is beyond it
pub is_behind_entry : (mode : Mode) (a e : Cell) → is_after (behind mode a) e.key ≡ beyond mode e a
unfolding behind
is_behind_entry plain a e = refl
is_behind_entry isolated a e = refl

-- not beyond and not equal, so below
below : (p q : Ordering) → p ≡ ordering_reverse q → is_gt p ≡ false → is_eq p ≡ false → is_gt q ≡ true
below p q e h k = grind arith

-- a later entry that may be parted from an earlier one is beyond it
parted_beyond : (mode : Mode) (a b : Cell) → beyond mode a b ≡ false → together mode a b ≡ false → beyond mode b a ≡ true
unfolding together
parted_beyond plain a b h k = below (key_cmp a.key b.key) (key_cmp b.key a.key) (key_total.antisymm a.key b.key) h k
parted_beyond isolated a b h k =
    below (bytes_cmp a.key.row b.key.row) (bytes_cmp b.key.row a.key.row) (nat_list_cmp_total.antisymm a.key.row b.key.row) h k

-- what lies behind a place goes on so upwards
pub after-GoesUp : (p : Place) → GoesUp (λ e. is_after p e.key)
after-GoesUp Start a b h t = t
after-GoesUp (AfterKey k) a b h t = gt_up key_total k a.key b.key t (key_le a b h)
after-GoesUp (AfterRow w) a b h t = gt_up nat_list_cmp_total w a.key.row b.key.row t (row_le a.key b.key (key_le a b h))

-- what is beyond an entry is not below it
pub above_of_beyond : (mode : Mode) (a b : Cell) → beyond mode b a ≡ true → above a b ≡ false
above_of_beyond mode a b h = by_answer (above a b) refl
  where
    by_answer : (t : Bool) → above a b ≡ t → t ≡ false
    by_answer false e = refl
    by_answer true e = absurd (both_ways h (not_beyond mode b a (above_exact.either a b e)))

-- what a filter keeps passes its test
pub all_pass : {X : Type 0} (p : X → Bool) (xs : List X) → AllByRecursion (λ x. p x ≡ true) (filter p xs)
all_pass p [] = tt
all_pass p (x ∷ xs) = by_answer (p x) refl (all_pass p xs)
  where
    by_answer : (b : Bool) → p x ≡ b → AllByRecursion (λ x. p x ≡ true) (filter p xs)
        → AllByRecursion (λ x. p x ≡ true) (cond b (x ∷ filter p xs) (filter p xs))
    by_answer true e k = (e, k)
    by_answer false e k = k

-- what holds of all holds of the last of the first ones
pub all_last : (P : Cell → Type 0) (x : Cell) (xs rest : List Cell) → AllByRecursion P (x ∷ xs ++ rest) → P (last_of x xs)
unfolding last_of
all_last P x [] rest h = h.0
all_last P x (y ∷ ys) rest h = all_last P y ys rest h.1

pub own : (a : Cell) → above a a ≡ false
own a = by_answer (above a a) refl
  where
    by_answer : (t : Bool) → above a a ≡ t → t ≡ false
    by_answer false e = refl
    by_answer true e = absurd (both_ways e (above_exact.either a a e))

-- an entry at or below another is dropped with what isn't behind that
dropped : (mode : Mode) (last e : Cell) (es : List Cell) → above e last ≡ false
    → filter (λ x. is_after (behind mode last) x.key) (e ∷ es) ≡ filter (λ x. is_after (behind mode last) x.key) es
dropped mode last e es h =
    let left : List Cell = filter (λ x. is_after (behind mode last) x.key) es in
    ap (λ b. cond b (e ∷ left) left) (is_behind_entry mode last e ∙ not_beyond mode e last h)

-- of a sorted list whose first part ends well, only the second part is behind the first one's last entry
left_behind : (mode : Mode) (e : Cell) (es rest : List Cell) → Ascends above (e ∷ es ++ rest) → EndsWell mode (e ∷ es) rest
    → filter (λ x. is_after (behind mode (last_of e es)) x.key) (e ∷ es ++ rest) ≡ rest
unfolding Ascends last_of
left_behind mode e [] [] up ends = dropped mode e e [] (own e)
left_behind mode e [] (x ∷ xs) up ends =
    let up_from : is_after (behind mode e) x.key ≡ true = is_behind_entry mode e x ∙ parted_beyond mode e x (not_beyond mode e x up.0.0) ends in
    let later : AllByRecursion (λ y. is_after (behind mode e) y.key ≡ true) xs =
    all_weaker (λ y. above x y ≡ false) (λ y. is_after (behind mode e) y.key ≡ true) (λ y g. after-GoesUp (behind mode e) x y g up_from) xs up.1.0 in
    dropped mode e e (x ∷ xs) (own e) ∙ filter_all (λ y. is_after (behind mode e) y.key) (x ∷ xs) (up_from, later)
left_behind mode e (x ∷ xs) rest up ends =
    dropped mode (last_of x xs) e (x ∷ xs ++ rest) (all_last (λ y. above e y ≡ false) x xs rest up.0) ∙ left_behind mode x xs rest up.1 ends

-- behind a piece only the rest is left
pub behind_piece : (mode : Mode) (p : Place) (list es rest : List Cell) → Ascends above list → after p list ≡ es ++ rest
    → EndsWell mode es rest → after (place_after mode p es) list ≡ rest
unfolding place_after
behind_piece mode p list [] rest up h ends = absurd ends
behind_piece mode p list (e ∷ es) rest up h ends =
    let last : Cell = last_of e es in
    let here : Cell → Bool = λ x. is_after p x.key in
    let there : Cell → Bool = λ x. is_after (behind mode last) x.key in
    let last_there : here last ≡ true = all_last (λ y. here y ≡ true) e es rest (subst (AllByRecursion (λ y. here y ≡ true)) h (all_pass here list)) in
    let within : (x : Cell) → there x ≡ true → here x ≡ true =
    λ x k. after-GoesUp p last x (above_of_beyond mode last x (sym (is_behind_entry mode last x) ∙ k)) last_there in
    sym (filter_in there here within list)
    ∙ ap (filter there) h
    ∙ left_behind mode e es rest (subst (Ascends above) h (Ascends-filter above above_exact here list up)) ends
