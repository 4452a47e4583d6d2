-- What lies behind a start and before an end, as a walk from entry to entry finds it.
use Rattle.std.proofs.Common.{◌≡◌, ℕ, zero, suc, ◌+◌, ◌-◌, ◌<◌, ◌≤◌, Bool, true, false, not, List, [], ◌∷◌, ◌++◌, length, take, drop, Some, slice_get, refl, sym, ap, subst, ◌∙◌, append_assoc, arith}
use Rattle.std.specs.List.{filter, AllByRecursion}
use Rattle.std.proofs.lemmas.List.{append-nil, drop_all, drop-drop, length-drop}
use Rattle.tablet_model.specs.Cell.{Cell}
use Rattle.tablet_model.specs.Order.{above}
use Rattle.tablet_model.specs.Sorted.{Ascends, from_first}
use Rattle.tablet_model.specs.Cuts.{Cut, Span, is_behind, is_before, within}
use Rattle.tablet_model.proofs.CutLemmas.{behind-GoesUp, passed-GoesUp}
use Rattle.tablet_model.proofs.Seeks.{from_first_is, filter_both}
use Rattle.tablet_model.proofs.Sums.{all_weaker}
use Rattle.sorted_file.proofs.Places.{Around, around}

Ascends-drop : (i : ℕ) (list : List Cell) → Ascends above list → Ascends above (drop i list)
unfolding Ascends
Ascends-drop zero list h = h
Ascends-drop (suc i) [] h = tt
Ascends-drop (suc i) (x ∷ xs) h = Ascends-drop i xs h.1

pub same_entry : (list : List Cell) (i : ℕ) (a : Around list i) (e : Cell) → slice_get list i ≡ Some e → a.entry ≡ e
same_entry list i a e is = let h = sym a.is_entry ∙ is in cc

-- ---- behind a start

pub skipped : (c : Cut) (list : List Cell) (i : ℕ) (e : Cell) → i < length list → slice_get list i ≡ Some e → is_behind c e.key ≡ false
    → filter (λ x. is_behind c x.key) (drop (i + 1) list) ≡ filter (λ x. is_behind c x.key) (drop i list)
skipped c list i e l is miss =
    let a = around list i l in
    let miss' : is_behind c a.entry.key ≡ false = ap (λ (x : Cell). is_behind c x.key) (same_entry list i a e is) ∙ miss in
    ap (filter (λ x. is_behind c x.key)) a.next ∙ sym (ap (filter (λ x. is_behind c x.key)) a.from_entry ∙ rw miss' refl)

pub all_behind : (c : Cut) (list : List Cell) (i : ℕ) (e : Cell) → Ascends above list → i < length list → slice_get list i ≡ Some e → is_behind c e.key ≡ true
    → filter (λ x. is_behind c x.key) (drop i list) ≡ drop i list
all_behind c list i e s l is hit =
    let a = around list i l in
    let p : Cell → Bool = λ x. is_behind c x.key in
    let hit' : p a.entry ≡ true = ap p (same_entry list i a e is) ∙ hit in
    let first : from_first p (a.entry ∷ a.behind) ≡ a.entry ∷ a.behind = rw hit' refl in
    sym (from_first_is p (behind-GoesUp c) (drop i list) (Ascends-drop i list s)) ∙ ap (from_first p) a.from_entry ∙ first ∙ sym a.from_entry

pub none_left : (p : Cell → Bool) (list : List Cell) (i : ℕ) → length list ≤ i → filter p (drop i list) ≡ drop i list
none_left p list i l = ap (filter p) (drop_all i list l) ∙ sym (drop_all i list l)

-- ---- before an end

-- the entries from a place on to another, all of which pass
abbrev pub UpTo : (Cell → Bool) → List Cell → ℕ → ℕ → Type 0
UpTo p list from i = filter p (drop from list) ≡ take (i - from) (drop from list) ++ filter p (drop i list)

pub nothing_yet : (p : Cell → Bool) (list : List Cell) (from : ℕ) → UpTo p list from from
nothing_yet p list from = let none : 0 ≡ from - from = omega arith in ap (λ (n : ℕ). take n (drop from list) ++ filter p (drop from list)) none

pub one_more : (p : Cell → Bool) (list : List Cell) (from i : ℕ) (e : Cell) → from ≤ i → i < length list → slice_get list i ≡ Some e → p e ≡ true → UpTo p list from i → UpTo p list from (i + 1)
one_more p list from i e h l is hit so_far =
    let a = around list i l in
    let tail : List Cell = drop from list in
    let j : ℕ = i - from in
    let b = around tail j (omega (arith, length-drop from list)) in
    let sum : from + j ≡ i = omega arith in
    let one : (i + 1) - from ≡ j + 1 = omega arith in
    let both : b.entry ∷ b.behind ≡ a.entry ∷ a.behind = sym b.from_entry ∙ drop-drop j from list ∙ ap (λ (n : ℕ). drop n list) sum ∙ a.from_entry in
    let same : b.entry ≡ a.entry = cc in
    let hit' : p a.entry ≡ true = ap p (same_entry list i a e is) ∙ hit in
    let kept : filter p (drop i list) ≡ a.entry ∷ filter p (drop (i + 1) list) = ap (filter p) a.from_entry ∙ rw hit' (ap (λ (xs : List Cell). a.entry ∷ filter p xs) (sym a.next)) in
    let grown : take ((i + 1) - from) tail ≡ take j tail ++ a.entry ∷ [] = ap (λ (n : ℕ). take n tail) one ∙ b.up_to ∙ ap (λ (x : Cell). take j tail ++ x ∷ []) same in
    so_far ∙ ap (λ (xs : List Cell). take j tail ++ xs) kept ∙ sym (ap (λ (xs : List Cell). xs ++ filter p (drop (i + 1) list)) grown ∙ append_assoc (take j tail) (a.entry ∷ []) (filter p (drop (i + 1) list)))

none_pass : (p : Cell → Bool) (xs : List Cell) → AllByRecursion (λ x. not (p x) ≡ true) xs → filter p xs ≡ []
none_pass p [] h = refl
none_pass p (x ∷ xs) h = rw (turned (p x) h.0) (none_pass p xs h.1)
  where
    turned : (b : Bool) → not b ≡ true → b ≡ false
    turned true e = sym e
    turned false e = refl

stop_all : (c : Cut) (x : Cell) (xs : List Cell) → Ascends above (x ∷ xs) → is_before c x.key ≡ false → AllByRecursion (λ y. not (is_before c y.key) ≡ true) (x ∷ xs)
unfolding Ascends
stop_all c x xs s miss =
    let passed : not (is_before c x.key) ≡ true = ap not miss in
    (passed, all_weaker (λ y. above x y ≡ false) (λ y. not (is_before c y.key) ≡ true) (λ y h. passed-GoesUp c x y h passed) xs s.0)

-- the end comes with an entry that does not lie before it
pub stopped : (c : Cut) (list : List Cell) (from i : ℕ) (e : Cell) → Ascends above list → i < length list → slice_get list i ≡ Some e → is_before c e.key ≡ false → UpTo (λ x. is_before c x.key) list from i
    → filter (λ x. is_before c x.key) (drop from list) ≡ take (i - from) (drop from list)
stopped c list from i e s l is miss so_far =
    let a = around list i l in
    let miss' : is_before c a.entry.key ≡ false = ap (λ (x : Cell). is_before c x.key) (same_entry list i a e is) ∙ miss in
    let sorted : Ascends above (a.entry ∷ a.behind) = subst (Ascends above) a.from_entry (Ascends-drop i list s) in
    so_far ∙ ap (λ (xs : List Cell). take (i - from) (drop from list) ++ filter (λ x. is_before c x.key) xs) a.from_entry
    ∙ ap (λ (xs : List Cell). take (i - from) (drop from list) ++ xs) (none_pass (λ x. is_before c x.key) (a.entry ∷ a.behind) (stop_all c a.entry a.behind sorted miss')) ∙ append-nil (take (i - from) (drop from list))

-- the end comes with the end of the list
pub all_before : (p : Cell → Bool) (list : List Cell) (from i : ℕ) → length list ≤ i → UpTo p list from i → filter p (drop from list) ≡ take (i - from) (drop from list)
all_before p list from i l so_far = so_far ∙ ap (λ (xs : List Cell). take (i - from) (drop from list) ++ filter p xs) (drop_all i list l) ∙ append-nil (take (i - from) (drop from list))

-- ---- a range

pub sought : (s : Span) (list : List Cell) (at end : ℕ) → filter (λ e. is_behind s.start e.key) list ≡ drop at list → filter (λ e. is_before s.end e.key) (drop at list) ≡ take (end - at) (drop at list)
    → take (end - at) (drop at list) ≡ within s list
sought s list at end behind before =
    sym before ∙ ap (filter (λ e. is_before s.end e.key)) (sym behind) ∙ sym (filter_both (λ e. is_behind s.start e.key) (λ e. is_before s.end e.key) list)
