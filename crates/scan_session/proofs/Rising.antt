-- The keys of walks: none is less than one before it, and those of later pieces are greater.
use Rattle.std.proofs.Common.{◌≡◌, ℕ, zero, suc, ◌-◌, ◌≤◌, Bool, true, false, not, ◌&&◌, cond, List, [], ◌∷◌, ◌++◌, eqb, take, refl, sym, ap, ◌∙◌, subst, arith, append_assoc, Ordering, Less, Equal}
use Rattle.std.specs.List.{AllByRecursion, IsDistinct}
use Rattle.std.specs.List.Sorted.{IsStrictlySortedBy}
use Rattle.std.specs.Ordering.{is_gt, is_eq, ordering_reverse}
use Rattle.std.proofs.Math.Dec.{eqb-suc-zero}
use Rattle.std.proofs.Math.Seq.{take-nil}
use Rattle.std.proofs.lemmas.Cmp.{nat_list_cmp_total, upto}
use Rattle.tablet_model.specs.Cell.{CellKey, Cell}
use Rattle.tablet_model.specs.Order.{key_cmp, bytes_cmp, above}
use Rattle.tablet_model.specs.Places.{Place, is_after, after}
use Rattle.tablet_model.specs.Sorted.{Ascends}
use Rattle.tablet_model.proofs.CutLemmas.{key_le, row_le}
use Rattle.tablet_model.proofs.Merges.{all_append, all_left, all_right}
use Rattle.tablet_model.proofs.Orders.{above_exact, exact_keys, key_total}
use Rattle.tablet_model.proofs.Sums.{Ascends-filter, all_weaker}
use Rattle.scan_session.specs.Keys.{KeysDiffer, KeysRise}
use Rattle.scan_session.specs.Takes.{Mode, plain, isolated, together, taken_behind, take_together, last_of, behind, place_after}
use Rattle.scan_session.specs.WalkLaws.{AnswersAscend, PiecesPartNoKey, WalksNeverFall, KeysStandInOnePiece, RowsStandInOnePiece, DifferentKeysRise, DifferentKeysAreCounted}
use Rattle.scan_session.specs.Walks.{EndsWell, IsPieceOf, Walks, entries_of_pieces}
use Rattle.scan_session.specs.declared.piece.Piece.{Piece}
use Rattle.scan_session.proofs.Beyond.{both_ways, beyond, is_behind_entry, above_of_beyond, after-GoesUp, all_pass, all_last, own}
use Rattle.scan_session.proofs.Pairs.{Ascends-append, Ascends-front, Ascends-weaker, IsDistinct-front, IsDistinct-filter, strictly-append}

-- what is beyond an entry is beyond those that aren't above it
beyond_before : (mode : Mode) (a b y : Cell) → above a b ≡ false → beyond mode y b ≡ true → beyond mode y a ≡ true
beyond_before mode a b y h k = by_answer mode (beyond mode y a) refl k
  where
    by_answer : (mode : Mode) (t : Bool) → beyond mode y a ≡ t → beyond mode y b ≡ true → t ≡ true
    by_answer mode true e k = refl
    by_answer plain false e k = absurd (both_ways k (upto key_total y.key a.key b.key e (key_le a b h)))
    by_answer isolated false e k = absurd (both_ways k (upto nat_list_cmp_total y.key.row a.key.row b.key.row e (row_le a.key b.key (key_le a b h))))

-- no entry of a list in order is above the last of the first ones
before_last : (e : Cell) (es rest : List Cell) → Ascends above (e ∷ es ++ rest) → AllByRecursion (λ a. above a (last_of e es) ≡ false) (e ∷ es)
unfolding Ascends last_of
before_last e [] rest up = (own e, tt)
before_last e (x ∷ xs) rest up = (all_last (λ y. above e y ≡ false) x xs rest up.0, before_last x xs rest up.1)

-- what lies behind a piece lies behind the place before it
behind_is_after : (mode : Mode) (p : Place) (entries rest : List Cell) → AllByRecursion (λ e. is_after p e.key ≡ true) (entries ++ rest)
    → EndsWell mode entries rest → (y : Cell) → is_after (place_after mode p entries) y.key ≡ true → is_after p y.key ≡ true
unfolding place_after
behind_is_after mode p [] rest here ends y h = absurd ends
behind_is_after mode p (e ∷ es) rest here ends y h =
    after-GoesUp p (last_of e es) y (above_of_beyond mode (last_of e es) y (sym (is_behind_entry mode (last_of e es) y) ∙ h))
    (all_last (λ a. is_after p a.key ≡ true) e es rest here)

-- and is beyond all its entries
behind_is_beyond : (mode : Mode) (p : Place) (entries rest others : List Cell) → Ascends above (entries ++ rest) → EndsWell mode entries rest
    → AllByRecursion (λ b. is_after (place_after mode p entries) b.key ≡ true) others
    → AllByRecursion (λ a. AllByRecursion (λ b. beyond mode b a ≡ true) others) entries
unfolding place_after
behind_is_beyond mode p [] rest others up ends h = absurd ends
behind_is_beyond mode p (e ∷ es) rest others up ends h =
    let last : Cell = last_of e es in
    all_weaker (λ a. above a last ≡ false) (λ a. AllByRecursion (λ b. beyond mode b a ≡ true) others)
    (λ a low. all_weaker (λ b. is_after (behind mode last) b.key ≡ true) (λ b. beyond mode b a ≡ true)
    (λ b k. beyond_before mode a last b low (sym (is_behind_entry mode last b) ∙ k)) others h)
    (e ∷ es) (before_last e es rest up)

-- what is left of an answer in order is in order
up_after : (p : Place) (list entries rest : List Cell) → Ascends above list → after p list ≡ entries ++ rest → Ascends above (entries ++ rest)
up_after p list entries rest up whole = subst (Ascends above) whole (Ascends-filter above above_exact (λ e. is_after p e.key) list up)

-- all entries of a walk lie behind the place where it began
walk_after : (answers : ℕ → List Cell) (most : ℕ) (mode : Mode) (p q : Place) (n l : ℕ) (pieces : List Piece)
    → Walks answers most mode p n pieces q l → AllByRecursion (λ e. is_after p e.key ≡ true) (entries_of_pieces pieces)
walk_after answers most mode p q n l [] w = tt
walk_after answers most mode p q n l (x ∷ xs) w =
    let piece : IsPieceOf mode x.entries (after p (answers x.n)) = w.2 in
    let here : AllByRecursion (λ e. is_after p e.key ≡ true) (x.entries ++ piece.rest) =
    subst (AllByRecursion (λ e. is_after p e.key ≡ true)) piece.whole (all_pass (λ e. is_after p e.key) (answers x.n)) in
    all_append (λ e. is_after p e.key ≡ true) x.entries (entries_of_pieces xs)
    (all_left (λ e. is_after p e.key ≡ true) x.entries piece.rest here)
    (all_weaker (λ e. is_after (place_after mode p x.entries) e.key ≡ true) (λ e. is_after p e.key ≡ true)
    (behind_is_after mode p x.entries piece.rest here piece.ends) (entries_of_pieces xs)
    (walk_after answers most mode (place_after mode p x.entries) q x.n l xs w.3))

joined_append : (xs ys : List Piece) → entries_of_pieces (xs ++ ys) ≡ entries_of_pieces xs ++ entries_of_pieces ys
joined_append [] ys = refl
joined_append (x ∷ xs) ys = ap (λ l. x.entries ++ l) (joined_append xs ys) ∙ sym (append_assoc x.entries (entries_of_pieces xs) (entries_of_pieces ys))

-- the entries of later pieces are beyond those of earlier ones
pieces_beyond : (answers : ℕ → List Cell) (most : ℕ) (mode : Mode) (p q : Place) (n l : ℕ) (xs ys : List Piece)
    → AnswersAscend answers most → Walks answers most mode p n (xs ++ ys) q l
    → AllByRecursion (λ a. AllByRecursion (λ b. beyond mode b a ≡ true) (entries_of_pieces ys)) (entries_of_pieces xs)
pieces_beyond answers most mode p q n l [] ys up w = tt
pieces_beyond answers most mode p q n l (x ∷ xs) ys up w =
    let piece : IsPieceOf mode x.entries (after p (answers x.n)) = w.2 in
    let there : Cell → Type 0 = λ e. is_after (place_after mode p x.entries) e.key ≡ true in
    let later : AllByRecursion there (entries_of_pieces xs ++ entries_of_pieces ys) =
    subst (AllByRecursion there) (joined_append xs ys) (walk_after answers most mode (place_after mode p x.entries) q x.n l (xs ++ ys) w.3) in
    all_append (λ a. AllByRecursion (λ b. beyond mode b a ≡ true) (entries_of_pieces ys)) x.entries (entries_of_pieces xs)
    (behind_is_beyond mode p x.entries piece.rest (entries_of_pieces ys) (up_after p (answers x.n) x.entries piece.rest (up x.n w.1) piece.whole) piece.ends
    (all_right there (entries_of_pieces xs) (entries_of_pieces ys) later))
    (pieces_beyond answers most mode (place_after mode p x.entries) q x.n l xs ys up w.3)

less_of : (p q : Ordering) → p ≡ ordering_reverse q → is_gt q ≡ true → p ≡ Less
less_of p q e h = grind arith

-- what is beyond an entry has a greater key
key_below : (mode : Mode) (a b : Cell) → beyond mode b a ≡ true → key_cmp a.key b.key ≡ Less
key_below plain a b h = less_of (key_cmp a.key b.key) (key_cmp b.key a.key) (key_total.antisymm a.key b.key) h
key_below isolated a b h = by_answer (is_gt (key_cmp b.key a.key)) refl
  where
    by_answer : (t : Bool) → is_gt (key_cmp b.key a.key) ≡ t → key_cmp a.key b.key ≡ Less
    by_answer true e = less_of (key_cmp a.key b.key) (key_cmp b.key a.key) (key_total.antisymm a.key b.key) e
    by_answer false e = absurd (both_ways h (row_le b.key a.key e))

row_below : (a b : Cell) → beyond isolated b a ≡ true → bytes_cmp a.key.row b.key.row ≡ Less
row_below a b h = less_of (bytes_cmp a.key.row b.key.row) (bytes_cmp b.key.row a.key.row) (nat_list_cmp_total.antisymm a.key.row b.key.row) h

-- of each pair
pairs_weaker : (P Q : Cell → Cell → Type 0) → ((a b : Cell) → P a b → Q a b) → (xs ys : List Cell)
    → AllByRecursion (λ a. AllByRecursion (P a) ys) xs → AllByRecursion (λ a. AllByRecursion (Q a) ys) xs
pairs_weaker P Q weaker xs ys h =
    all_weaker (λ a. AllByRecursion (P a) ys) (λ a. AllByRecursion (Q a) ys) (λ a k. all_weaker (P a) (Q a) (weaker a) ys k) xs h

pub keys_in_one_piece : KeysStandInOnePiece
keys_in_one_piece answers most mode p q n l xs ys up w =
    pairs_weaker (λ a b. beyond mode b a ≡ true) (λ a b. key_cmp a.key b.key ≡ Less) (key_below mode) (entries_of_pieces xs) (entries_of_pieces ys)
    (pieces_beyond answers most mode p q n l xs ys up w)

pub rows_in_one_piece : RowsStandInOnePiece
rows_in_one_piece answers most p q n l xs ys up w =
    pairs_weaker (λ a b. beyond isolated b a ≡ true) (λ a b. bytes_cmp a.key.row b.key.row ≡ Less) row_below (entries_of_pieces xs) (entries_of_pieces ys)
    (pieces_beyond answers most isolated p q n l xs ys up w)

-- a piece's entries are beyond none of the later ones'
piece_below : (answers : ℕ → List Cell) (most : ℕ) (mode : Mode) (p q : Place) (n l : ℕ) (x : Piece) (xs : List Piece)
    → AnswersAscend answers most → Walks answers most mode p n (x ∷ xs) q l
    → AllByRecursion (λ a. AllByRecursion (λ b. key_cmp a.key b.key ≡ Less) (entries_of_pieces xs)) x.entries
piece_below answers most mode p q n l x xs up w =
    let piece : IsPieceOf mode x.entries (after p (answers x.n)) = w.2 in
    pairs_weaker (λ a b. beyond mode b a ≡ true) (λ a b. key_cmp a.key b.key ≡ Less) (key_below mode) x.entries (entries_of_pieces xs)
    (behind_is_beyond mode p x.entries piece.rest (entries_of_pieces xs) (up_after p (answers x.n) x.entries piece.rest (up x.n w.1) piece.whole) piece.ends
    (walk_after answers most mode (place_after mode p x.entries) q x.n l xs w.3))

abbrev key_above : Cell → Cell → Bool
key_above a b = is_gt (key_cmp a.key b.key)

-- the entries of a piece are in order
piece_up : (answers : ℕ → List Cell) (most : ℕ) (mode : Mode) (p q : Place) (n l : ℕ) (x : Piece) (xs : List Piece)
    → AnswersAscend answers most → Walks answers most mode p n (x ∷ xs) q l → Ascends above x.entries
piece_up answers most mode p q n l x xs up w =
    let piece : IsPieceOf mode x.entries (after p (answers x.n)) = w.2 in
    Ascends-front above x.entries piece.rest (up_after p (answers x.n) x.entries piece.rest (up x.n w.1) piece.whole)

pub never_fall : WalksNeverFall
unfolding Ascends
never_fall answers most mode p q n l [] up w = tt
never_fall answers most mode p q n l (x ∷ xs) up w =
    Ascends-append key_above x.entries (entries_of_pieces xs)
    (Ascends-weaker above key_above key_le x.entries (piece_up answers most mode p q n l x xs up w))
    (never_fall answers most mode (place_after mode p x.entries) q x.n l xs up w.3)
    (pairs_weaker (λ a b. key_cmp a.key b.key ≡ Less) (λ a b. key_above a b ≡ false) (λ a b h. ap is_gt h) x.entries (entries_of_pieces xs)
    (piece_below answers most mode p q n l x xs up w))

same_twice : (p : Ordering) → p ≡ ordering_reverse p → is_eq p ≡ true
same_twice p e = grind arith

equal_of : (p : Ordering) → is_eq p ≡ true → p ≡ Equal
equal_of p h = grind arith

-- entries of different rows have different keys
rows_apart : (a b : Cell) → together isolated a b ≡ false → together plain a b ≡ false
unfolding together
rows_apart a b h = by_answer (is_eq (key_cmp a.key b.key)) refl
  where
    by_answer : (t : Bool) → is_eq (key_cmp a.key b.key) ≡ t → t ≡ false
    by_answer false e = refl
    by_answer true e =
        let keys : a.key ≡ b.key = exact_keys a.key b.key (equal_of (key_cmp a.key b.key) e) in
        let P : CellKey → Type 0 = λ k. is_eq (bytes_cmp a.key.row k.row) ≡ true in
        absurd (both_ways (subst P keys (same_twice (bytes_cmp a.key.row a.key.row) (nat_list_cmp_total.antisymm a.key.row a.key.row))) h)

ends_plain : (mode : Mode) (entries rest : List Cell) → EndsWell mode entries rest → EndsWell plain entries rest
ends_plain mode [] rest h = h
ends_plain mode (e ∷ es) [] h = tt
ends_plain plain (e ∷ es) (x ∷ xs) h = h
ends_plain isolated (e ∷ es) (x ∷ xs) h = rows_apart (last_of e es) x h

pub part_no_key : PiecesPartNoKey
part_no_key mode entries list h = record { rest = h.rest; whole = h.whole; ends = ends_plain mode entries h.rest h.ends }

neither : (p : Ordering) → is_gt p ≡ false → is_eq p ≡ false → p ≡ Less
neither p h k = grind arith

all_less : (x : Cell) (ys : List Cell) → AllByRecursion (λ y. above x y ≡ false) ys → AllByRecursion (λ y. together plain x y ≡ false) ys
    → AllByRecursion (λ y. key_cmp x.key y.key ≡ Less) ys
unfolding together
all_less x [] up differ = tt
all_less x (y ∷ ys) up differ = (neither (key_cmp x.key y.key) (key_le x y up.0) differ.0, all_less x ys up.1 differ.1)

-- in order, different keys rise
differ_rise : (list : List Cell) → Ascends above list → KeysDiffer list → KeysRise list
unfolding Ascends IsDistinct IsStrictlySortedBy
differ_rise [] up differ = tt
differ_rise (x ∷ xs) up differ = (all_less x xs up.0 differ.0, differ_rise xs up.1 differ.1)

pub different_rise : DifferentKeysRise
unfolding IsStrictlySortedBy
different_rise answers most mode p q n l [] up differ w = tt
different_rise answers most mode p q n l (x ∷ xs) up differ w =
    let piece : IsPieceOf mode x.entries (after p (answers x.n)) = w.2 in
    let apart : KeysDiffer (x.entries ++ piece.rest) =
    subst KeysDiffer piece.whole (IsDistinct-filter (together plain) (λ e. is_after p e.key) (answers x.n) (differ x.n w.1)) in
    strictly-append (λ a b. key_cmp a.key b.key) x.entries (entries_of_pieces xs)
    (differ_rise x.entries (piece_up answers most mode p q n l x xs up w) (IsDistinct-front (together plain) x.entries piece.rest apart))
    (different_rise answers most mode (place_after mode p x.entries) q x.n l xs up differ w.3)
    (piece_below answers most mode p q n l x xs up w)

-- of different keys, what is taken behind an entry is a count
count_behind : (m : ℕ) (last : Cell) (es : List Cell) → KeysDiffer (last ∷ es) → taken_behind plain m last es ≡ take m es
unfolding IsDistinct taken_behind
count_behind m last [] differ = sym (take-nil m)
count_behind zero last (e ∷ es) differ = ap (λ b. cond (eqb 0 0 && not b) [] (e ∷ taken_behind plain (0 - 1) e es)) differ.0.0
count_behind (suc m) last (e ∷ es) differ =
    ap (λ b. cond (b && not (together plain last e)) [] (e ∷ taken_behind plain (suc m - 1) e es)) (eqb-suc-zero m)
    ∙ ap (λ k. e ∷ taken_behind plain k e es) fewer
    ∙ ap (λ l. e ∷ l) (count_behind m e es differ.1)
  where
    fewer : suc m - 1 ≡ m
    fewer = omega arith

count_taken : (m : ℕ) (list : List Cell) → 1 ≤ m → KeysDiffer list → take_together plain m list ≡ take m list
unfolding take_together
count_taken m [] h differ = sym (take-nil m)
count_taken zero (e ∷ es) h differ = absurd (omega arith)
count_taken (suc m) (e ∷ es) h differ = ap (λ k. e ∷ taken_behind plain k e es) fewer ∙ ap (λ l. e ∷ l) (count_behind m e es differ)
  where
    fewer : suc m - 1 ≡ m
    fewer = omega arith

pub different_counted : DifferentKeysAreCounted
different_counted m p list h differ =
    count_taken m (after p list) h (IsDistinct-filter (together plain) (λ e. is_after p e.key) list differ)
