-- Where the blocks of a file begin, and what lies before a block.
use Rattle.std.proofs.Common.{◌≡◌, ℕ, zero, suc, ◌+◌, ◌-◌, ◌*◌, ◌%◌, ◌<◌, ◌≤◌, Bool, true, false, eqb, cond, List, [], ◌∷◌, ◌++◌, length, take, drop, get_or, Option, None, Some, slice_get, refl, sym, ap, subst, ◌∙◌, length-append, arith}
use Rattle.std.specs.List.{filter, AllByRecursion}
use Rattle.std.specs.declared.cmp.Ordering.{Ordering}
use Rattle.std.specs.declared.cmp.Ordering.TheVariants.{Less, Equal, Greater}
use Rattle.std.specs.Ordering.{is_lt, is_le, is_gt, is_ge}
use Rattle.std.proofs.lemmas.Bool.Decides.{nat_tests}
use Rattle.std.proofs.lemmas.List.{drop-drop, drop-take, take-append-drop}
use Rattle.tablet_model.specs.Cell.{CellKey, Cell}
use Rattle.tablet_model.specs.Order.{above, key_cmp, bytes_cmp}
use Rattle.tablet_model.specs.Sorted.{Ascends}
use Rattle.tablet_model.specs.Cuts.{Cut, Everything, Before, Behind, BeforeRow, BehindRow, is_behind, is_before}
use Rattle.tablet_model.proofs.CutLemmas.{behind_up, key_le}
use Rattle.sorted_file.specs.Image.{neighbour, entry_bytes, entries_from, entry_place, block_start, blocks_from, block_places}
use Rattle.sorted_file.specs.declared.version.Version.{Version}
use Rattle.sorted_file.proofs.Walks.{UpTo}

-- ---- where blocks begin

begins : (n : ℕ) → eqb (n % 64) 0 ≡ true → n % 64 ≡ 0
begins n h = grind (arith, nat_tests)

goes_on : (n : ℕ) → eqb (n % 64) 0 ≡ false → n % 64 ≡ 0 → ⊥
goes_on n h e = grind (arith, nat_tests)

-- of the blocks behind n entries the k-th begins i entries later, where the first one behind them has the number q
abbrev IsBlock : Version → ℕ → Option Cell → List Cell → ℕ → ℕ → ℕ → List ℕ → Type 0
IsBlock v n before list k i at places = (i < length list) × (get_or places k 0 ≡ at + length (entries_from v n before (take i list)))

-- a place behind a first entry
one_behind : (v : Version) (n : ℕ) (before : Option Cell) (x : Cell) (xs : List Cell) (i j at place : ℕ) → i ≡ suc j
    → (j < length xs) × (place ≡ (at + length (entry_bytes v (neighbour v n before) x)) + length (entries_from v (n + 1) (Some x) (take j xs)))
    → (i < length (x ∷ xs)) × (place ≡ at + length (entries_from v n before (take i (x ∷ xs))))
one_behind v n before x xs i j at place e h =
    let bytes = length-append (entry_bytes v (neighbour v n before) x) (entries_from v (n + 1) (Some x) (take j xs)) in
    subst (λ m. (m < length (x ∷ xs)) × (place ≡ at + length (entries_from v n before (take m (x ∷ xs))))) (sym e) (omega (arith, h.0), omega (arith, h.1, bytes))

first_block : (v : Version) (before : Option Cell) (x : Cell) (xs : List Cell) (n q k i at : ℕ) (places : List ℕ) → n ≤ 64 * q → 64 * q < n + 64 → n + i ≡ 64 * (q + k) → k < length (block_start n at ++ places)
    → ((q' k' i' : ℕ) → n + 1 ≤ 64 * q' → 64 * q' < (n + 1) + 64 → (n + 1) + i' ≡ 64 * (q' + k') → k' < length places → IsBlock v (n + 1) (Some x) xs k' i' (at + length (entry_bytes v (neighbour v n before) x)) places)
    → IsBlock v n before (x ∷ xs) k i at (block_start n at ++ places)
first_block v before x xs n q k i at places low high e l next = go (eqb (n % 64) 0) refl k e l
  where
    go : (b : Bool) → eqb (n % 64) 0 ≡ b → (k : ℕ) → n + i ≡ 64 * (q + k) → k < length (cond b (at ∷ []) [] ++ places) → IsBlock v n before (x ∷ xs) k i at (cond b (at ∷ []) [] ++ places)
    go true h zero e l =
        let whole = begins n h in
        let none : zero ≡ i = omega arith in
        let here : at ≡ at + 0 = omega arith in
        subst (λ m. (m < length (x ∷ xs)) × (at ≡ at + length (entries_from v n before (take m (x ∷ xs))))) none (omega arith, here)
    go true h (suc k) e l =
        let whole = begins n h in
        one_behind v n before x xs i (i - 1) at (get_or places k 0) (omega arith) (next (q + 1) k (i - 1) (omega arith) (omega arith) (omega arith) (omega arith))
    go false h k e l =
        let part = goes_on n h in
        one_behind v n before x xs i (i - 1) at (get_or places k 0) (omega arith) (next q k (i - 1) (omega arith) (omega arith) (omega arith) l)

block_at : (v : Version) (before : Option Cell) (list : List Cell) (n q k i at : ℕ) → n ≤ 64 * q → 64 * q < n + 64 → n + i ≡ 64 * (q + k) → k < length (blocks_from v n at before list) → IsBlock v n before list k i at (blocks_from v n at before list)
unfolding blocks_from
block_at v before [] n q k i at low high e l = absurd (omega arith)
block_at v before (x ∷ xs) n q k i at low high e l =
    let after : ℕ = at + length (entry_bytes v (neighbour v n before) x) in
    first_block v before x xs n q k i at (blocks_from v (n + 1) after (Some x) xs) low high e l (λ q' k' i' low' high' e' l'. block_at v (Some x) xs (n + 1) q' k' i' after low' high' e' l')

-- a block begins with an entry
pub block_is_at : (v : Version) (list : List Cell) (k i : ℕ) (places : List ℕ) → places ≡ block_places v list → i ≡ 64 * k → k < length (block_places v list) → (i < length list) × (get_or places k 0 ≡ entry_place v list i)
block_is_at v list k i places same e l =
    subst (λ ps. (i < length list) × (get_or ps k 0 ≡ entry_place v list i)) (sym same) (block_at v None list 0 0 k i 5 (omega arith) (omega arith) (omega arith) l)

-- ---- what lies before a block

entry_among : (P : Cell → Type 0) (list : List Cell) (i : ℕ) (e : Cell) → AllByRecursion P list → slice_get list i ≡ Some e → P e
entry_among P [] i e all is = absurd cc
entry_among P (x ∷ xs) zero e all is = let same : x ≡ e = cc in subst P same all.0
entry_among P (x ∷ xs) (suc i) e all is = entry_among P xs i e all.1 is

-- no entry before one that isn't behind a cut is
pub none_behind : (c : Cut) (list : List Cell) (i : ℕ) (e : Cell) → Ascends above list → slice_get list i ≡ Some e → is_behind c e.key ≡ false → AllByRecursion (λ x. is_behind c x.key ≡ false) (take i list)
unfolding Ascends
none_behind c list zero e s is miss = tt
none_behind c [] (suc i) e s is miss = tt
none_behind c (x ∷ xs) (suc i) e s is miss = (go (is_behind c x.key) refl, none_behind c xs i e s.1 is miss)
  where
    go : (b : Bool) → is_behind c x.key ≡ b → b ≡ false
    go false h = refl
    go true h = let up = behind_up c x.key e.key h (key_le x e (entry_among (λ y. above x y ≡ false) xs i e s.0 is)) in sym up ∙ miss

-- what isn't behind a cut lies before it
not_ge : (r : Ordering) → is_ge r ≡ false → is_lt r ≡ true
not_ge Less h = refl
not_ge Equal h = sym h
not_ge Greater h = sym h

not_gt : (r : Ordering) → is_gt r ≡ false → is_le r ≡ true
not_gt Less h = refl
not_gt Equal h = refl
not_gt Greater h = sym h

passed : (c : Cut) (k : CellKey) → is_behind c k ≡ false → is_before c k ≡ true
passed Everything k h = refl
passed (Before b) k h = not_ge (key_cmp k b) h
passed (Behind b) k h = not_gt (key_cmp k b) h
passed (BeforeRow r) k h = not_ge (bytes_cmp k.row r) h
passed (BehindRow r) k h = not_gt (bytes_cmp k.row r) h

-- a part of which no entry is behind a cut
filter_none : (p : Cell → Bool) (xs ys : List Cell) → AllByRecursion (λ x. p x ≡ false) xs → filter p (xs ++ ys) ≡ filter p ys
filter_none p [] ys h = refl
filter_none p (x ∷ xs) ys h = rw (h.0) (filter_none p xs ys h.1)

pub behind_from : (c : Cut) (list : List Cell) (i : ℕ) → AllByRecursion (λ x. is_behind c x.key ≡ false) (take i list) → filter (λ x. is_behind c x.key) (drop i list) ≡ filter (λ x. is_behind c x.key) list
behind_from c list i h =
    let p : Cell → Bool = λ x. is_behind c x.key in
    sym (filter_none p (take i list) (drop i list) h) ∙ ap (filter p) (take-append-drop i list)

filter_front : (c : Cut) (xs ys : List Cell) → AllByRecursion (λ x. is_behind c x.key ≡ false) xs → filter (λ x. is_before c x.key) (xs ++ ys) ≡ xs ++ filter (λ x. is_before c x.key) ys
filter_front c [] ys h = refl
filter_front c (x ∷ xs) ys h = rw (passed c x.key h.0) (ap (λ l. x ∷ l) (filter_front c xs ys h.1))

dropped : (P : Cell → Type 0) (n : ℕ) (xs : List Cell) → AllByRecursion P xs → AllByRecursion P (drop n xs)
dropped P zero xs h = h
dropped P (suc n) [] h = tt
dropped P (suc n) (x ∷ xs) h = dropped P n xs h.1

pub before_to : (c : Cut) (list : List Cell) (from i : ℕ) → from ≤ i → AllByRecursion (λ x. is_behind c x.key ≡ false) (take i list) → UpTo (λ x. is_before c x.key) list from i
before_to c list from i l h =
    let p : Cell → Bool = λ x. is_before c x.key in
    let sum : from + (i - from) ≡ i = omega arith in
    let front : drop from (take i list) ≡ take (i - from) (drop from list) = ap (λ n. drop from (take n list)) (sym sum) ∙ drop-take from (i - from) list in
    let parts : drop from list ≡ take (i - from) (drop from list) ++ drop i list =
    sym (take-append-drop (i - from) (drop from list)) ∙ ap (λ l. take (i - from) (drop from list) ++ l) (drop-drop (i - from) from list ∙ ap (λ n. drop n list) sum) in
    ap (filter p) parts
    ∙ filter_front c (take (i - from) (drop from list)) (drop i list)
    (subst (AllByRecursion (λ x. is_behind c x.key ≡ false)) front (dropped (λ x. is_behind c x.key ≡ false) from (take i list) h))

-- an open start
pub all_from_start : (list : List Cell) → filter (λ x. is_behind Everything x.key) list ≡ list
all_from_start [] = refl
all_from_start (x ∷ xs) = ap (λ l. x ∷ l) (all_from_start xs)

pub all_to_end : (list : List Cell) → filter (λ x. is_before Everything x.key) list ≡ list
all_to_end [] = refl
all_to_end (x ∷ xs) = ap (λ l. x ∷ l) (all_to_end xs)
