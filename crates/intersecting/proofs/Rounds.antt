-- Rounds of a search: no document that matches is left out, and each round leaves less before the next.
use Rattle.std.proofs.Common.{◌≡◌, ◌&&◌, ◌||◌, ◌<◌, ◌≤◌, ℕ, not, Bool, true, false, cond, List, [], ◌∷◌, length, drop, take, ◌-◌, get_or, refl, sym, ap, ◌∙◌, subst, arith, Less, Equal, Greater, Ordering}
use Rattle.std.specs.List.{list_all, list_any, filter}
use Rattle.std.specs.Ordering.{is_gt, is_ge, ordering_then}
use Rattle.std.proofs.lemmas.Cmp.{tied_itself, nat_list_cmp_total}
use Rattle.std.proofs.lemmas.Map.Lookups.{exact_bytes}
use Rattle.tablet_model.specs.Cell.{Cell}
use Rattle.tablet_model.specs.Order.{bytes_cmp}
use Rattle.tablet_model.specs.Cuts.{BehindRow}
use Rattle.tablet_model.specs.Rows.{same_bytes, same_row, has_term}
use Rattle.tablet_model.proofs.CutLemmas.{ge_back, gt_up}
use Rattle.tablet_model.proofs.Bools.{both-of-and}
use Rattle.tablet_model.proofs.Texts.{equal_texts, text_itself}
use Rattle.intersecting.specs.Documents.{matches}
use Rattle.intersecting.specs.Searches.{document_cmp, is_under, lies_from, in_later_row, left_by, places_left, shows, IsAdvance, IsAgreement, IsRound, IsRowStart, IsSearch}
use Rattle.intersecting.specs.declared.asking.Step.{Step}
use Rattle.intersecting.specs.declared.asking.Step.TheVariants.{Here, Ahead, Nowhere}
use Rattle.intersecting.specs.declared.searching.Round.TheVariants.{Hit, On, Row}
use Rattle.intersecting.proofs.Orders.{document_total}
use Rattle.intersecting.proofs.Firsts.{no, later_reaches}
use Rattle.intersecting.proofs.Advances.{same_lies, same_has, not_back}
use Rattle.intersecting.proofs.Agreements.{all_at, onward}

-- ---- counts

count_step : (a b : Bool) (m n : ℕ) (x : Cell) (xs ys : List Cell) → (a ≡ true → b ≡ true) → length xs ≤ length ys → length (cond a (x ∷ xs) xs) ≤ length (cond b (x ∷ ys) ys)
count_step true true m n x xs ys f h = omega arith
count_step true false m n x xs ys f h = no (f refl)
count_step false true m n x xs ys f h = omega arith
count_step false false m n x xs ys f h = h

-- what passes a stronger test is no more
count_most : (p q : Cell → Bool) (list : List Cell) → ((y : Cell) → p y ≡ true → q y ≡ true) → length (filter p list) ≤ length (filter q list)
count_most p q [] f = omega arith
count_most p q (y ∷ ys) f = count_step (p y) (q y) 0 0 y (filter p ys) (filter q ys) (f y) (count_most p q ys f)

less_step : (a b : Bool) (x : Cell) (xs ys : List Cell) → (a ≡ true → b ≡ true) → length xs ≤ length ys → ((b && not a) ≡ false → length xs < length ys) → length (cond a (x ∷ xs) xs) < length (cond b (x ∷ ys) ys)
less_step true true x xs ys f h k = let l : length xs < length ys = k refl in omega arith
less_step true false x xs ys f h k = no (f refl)
less_step false true x xs ys f h k = omega arith
less_step false false x xs ys f h k = k refl

-- and less, where one passes the weaker alone
count_less : (p q : Cell → Bool) (list : List Cell) → ((y : Cell) → p y ≡ true → q y ≡ true) → list_any (λ y. q y && not (p y)) list ≡ true → length (filter p list) < length (filter q list)
count_less p q [] f h = no h
count_less p q (y ∷ ys) f h = less_step (p y) (q y) y (filter p ys) (filter q ys) (f y) (count_most p q ys f) (λ k. count_less p q ys f (sym (ap (λ b. b || list_any (λ y. q y && not (p y)) ys) k) ∙ h))

pub any_more : (p q : Cell → Bool) (list : List Cell) → ((y : Cell) → p y ≡ true → q y ≡ true) → list_any p list ≡ true → list_any q list ≡ true
any_more p q [] f h = h
any_more p q (y ∷ ys) f h = go (p y) (q y) (f y) h (any_more p q ys f)
  where
    go : (a b : Bool) → (a ≡ true → b ≡ true) → (a || list_any p ys) ≡ true → (list_any p ys ≡ true → list_any q ys ≡ true) → (b || list_any q ys) ≡ true
    go true b f h i = ap (λ b. b || list_any q ys) (f refl)
    go false true f h i = refl
    go false false f h i = i h

-- a document that a list has is an entry's
any_has : (list : List Cell) (d : Cell) (term : List ℕ) (t : Cell → Bool) → ((y : Cell) → d.key.row ≡ y.key.row → d.key.qualifier ≡ y.key.qualifier → t y ≡ true) → has_term list d term ≡ true → list_any t list ≡ true
unfolding has_term same_row
any_has list d term t f h = any_more (is_under d term) t list (λ y u. let parts = three (same_bytes d.key.row y.key.row) (same_bytes term y.key.family) (same_bytes d.key.qualifier y.key.qualifier) u in f y (equal_texts d.key.row y.key.row parts.0) (equal_texts d.key.qualifier y.key.qualifier parts.1)) h
  where
    three : (a b c : Bool) → (a && (b && c)) ≡ true → (a ≡ true) × (c ≡ true)
    three a b c h = grind arith

-- ---- what matches

pub matches_all : (terms without : List (List ℕ)) (list : List Cell) (d : Cell) → matches terms without list d ≡ true → list_all (has_term list d) terms ≡ true
unfolding matches
matches_all terms without list d h = (both-of-and (list_all (has_term list d) terms) (not (list_any (has_term list d) without)) h).0

all_later : (p : List ℕ → Bool) (terms : List (List ℕ)) → list_all p terms ≡ true → list_all p (drop 1 terms) ≡ true
all_later p [] h = refl
all_later p (t ∷ ts) h = (both-of-and (p t) (list_all p ts) h).1

all_parts : (p : List ℕ → Bool) (terms : List (List ℕ)) (t : List ℕ) → 1 ≤ length terms → p (get_or terms 0 t) ≡ true → list_all p (drop 1 terms) ≡ true → list_all p terms ≡ true
all_parts p [] t l h k = refl
all_parts p (x ∷ xs) t l h k = ap (λ b. b && list_all p xs) h ∙ k

fails : (terms without : List (List ℕ)) (list : List Cell) (d : Cell) → not (list_any (has_term list d) without) ≡ false → matches terms without list d ≡ false
unfolding matches
fails terms without list d h = ap (λ b. list_all (has_term list d) terms && b) h ∙ and_false (list_all (has_term list d) terms)
  where
    and_false : (b : Bool) → (b && false) ≡ false
    and_false true = refl
    and_false false = refl

all_same : (p q : List ℕ → Bool) → ((t : List ℕ) → p t ≡ q t) → (ts : List (List ℕ)) → list_all p ts ≡ list_all q ts
all_same p q f [] = refl
all_same p q f (t ∷ ts) = rw (f t, all_same p q f ts) refl

any_same : (p q : List ℕ → Bool) → ((t : List ℕ) → p t ≡ q t) → (ts : List (List ℕ)) → list_any p ts ≡ list_any q ts
any_same p q f [] = refl
any_same p q f (t ∷ ts) = rw (f t, any_same p q f ts) refl

-- a document is told by its row and its qualifier
pub same_matches : (terms without : List (List ℕ)) (list : List Cell) (d e : Cell) → d.key.row ≡ e.key.row → d.key.qualifier ≡ e.key.qualifier → matches terms without list d ≡ matches terms without list e
unfolding matches
same_matches terms without list d e r q =
    ap (λ b. b && not (list_any (has_term list d) without)) (all_same (has_term list d) (has_term list e) (λ t. same_has list d e t r q) terms)
    ∙ ap (λ b. list_all (has_term list e) terms && not b) (any_same (has_term list d) (has_term list e) (λ t. same_has list d e t r q) without)

not_behind : (p : Cell) → lies_from true p p ≡ false
unfolding lies_from
not_behind p = ap is_gt (tied_itself document_total p.key)

-- the parts of two documents that tie
pub tied_parts : (d e : Cell) → document_cmp d.key e.key ≡ Equal → (d.key.row ≡ e.key.row) × (d.key.qualifier ≡ e.key.qualifier)
unfolding document_cmp
tied_parts d e h = let parts = two (bytes_cmp d.key.row e.key.row) (bytes_cmp d.key.qualifier e.key.qualifier) h in (exact_bytes d.key.row e.key.row parts.0, exact_bytes d.key.qualifier e.key.qualifier parts.1)
  where
    two : (r q : Ordering) → ordering_then r q ≡ Equal → (r ≡ Equal) × (q ≡ Equal)
    two r q h = grind arith

-- from a document on that does not match is behind it
apart : (terms without : List (List ℕ)) (list : List Cell) (m d : Cell) → matches terms without list d ≡ true → matches terms without list m ≡ false → lies_from false m d ≡ lies_from true m d
unfolding lies_from
apart terms without list m d h k = go (document_cmp d.key m.key) refl
  where
    go : (o : Ordering) → document_cmp d.key m.key ≡ o → is_ge o ≡ is_gt o
    go Less e = refl
    go Greater e = refl
    go Equal e = let parts = tied_parts d m e in no (sym k ∙ sym (same_matches terms without list d m parts.0 parts.1) ∙ h)

-- ---- one round

-- the terms behind the first, as a slice of them has them
pub others_are : (ts : List (List ℕ)) → take (length ts - 1) (drop 1 ts) ≡ drop 1 ts
others_are [] = refl
others_are (t ∷ ts) = let e : length (t ∷ ts) - 1 ≡ length ts = omega arith in ap (λ n. take n ts) e ∙ all ts
  where
    all : (ts : List (List ℕ)) → take (length ts) ts ≡ ts
    all [] = refl
    all (t ∷ ts) = ap (λ l. t ∷ l) (all ts)

on_same : (a b : Bool) → On a ≡ On b → a ≡ b
on_same a b h = cc

module _ (list : List Cell) (terms without : List (List ℕ)) (t : List ℕ) (some : 1 ≤ length terms) (behind : Bool) (p n : Cell) where
  abbrev first : List ℕ
  first = get_or terms 0 t

  has_own : (d : Cell) → matches terms without list d ≡ true → has_term list d first ≡ true
  has_own d h = all_at (has_term list d) terms 0 t some (matches_all terms without list d h)

  has_others : (d : Cell) → matches terms without list d ≡ true → list_all (has_term list d) (drop 1 terms) ≡ true
  has_others d h = all_later (has_term list d) terms (matches_all terms without list d h)

  -- the first source has no document of the row
  pub round_nowhere : IsAdvance list first behind p n Nowhere → IsRound list terms without behind p n Row
  round_nowhere a = record {
    row = a.row;
    hit = λ h. absurd (let k : Row ≡ Hit = h in cc);
    left = λ d h. a.left d (has_own d h);
    closer = λ next h. absurd (let k : Row ≡ On next = h in cc);
  }

  module _ (step : Step) (a : IsAdvance list first behind p n step) (shown : shows step ≡ true) (m : Cell) where
    left_so : (d : Cell) (s : Step) → shows s ≡ true → left_by s n d ≡ lies_from false n d
    left_so d Here h = refl
    left_so d Ahead h = refl
    left_so d Nowhere h = no h

    left_first : (d : Cell) → matches terms without list d ≡ true → lies_from behind p d ≡ lies_from false n d
    left_first d h = a.left d (has_own d h) ∙ left_so d step shown

    -- another source has none
    pub round_ends : IsAgreement list (drop 1 terms) n m Nowhere → IsRound list terms without behind p m Row
    round_ends b = record {
      row = b.row ∙ a.row;
      hit = λ h. absurd (let k : Row ≡ Hit = h in cc);
      left = λ d h. left_first d h ∙ b.left d (has_others d h);
      closer = λ next h. absurd (let k : Row ≡ On next = h in cc);
    }

    later_same : (y : Cell) → m.key.row ≡ p.key.row → in_later_row m y ≡ in_later_row p y
    unfolding in_later_row
    later_same y h = ap (λ row. is_gt (bytes_cmp y.key.row row)) h

    -- whatever lies behind the first source's document, or from a later one on, is less
    less : (next : Bool) → m.key.row ≡ p.key.row → ((y : Cell) → lies_from next m y ≡ true → lies_from behind p y ≡ true) → lies_from next m n ≡ false → places_left next m list < places_left behind p list
    unfolding places_left
    less next row f out =
        let fewer : length (filter (lies_from next m) list) < length (filter (lies_from behind p) list) = count_less (lies_from next m) (lies_from behind p) list f (any_has list n first (λ y. lies_from behind p y && not (lies_from next m y))
        (λ y r q. two (sym (same_lies behind p n y r q) ∙ a.reached shown) (sym (same_lies next m n y r q) ∙ out)) (a.shown shown)) in
        let most : length (filter (in_later_row m) list) ≤ length (filter (in_later_row p) list) = count_most (in_later_row m) (in_later_row p) list (λ y h. sym (later_same y row) ∙ h) in
        omega arith
      where
        two : {b c : Bool} → b ≡ true → c ≡ false → (b && not c) ≡ true
        two h k = grind arith

    -- another source has a later document
    pub round_moves : IsAgreement list (drop 1 terms) n m Ahead → IsRound list terms without behind p m (On false)
    round_moves b = record {
      row = b.row ∙ a.row;
      hit = λ h. absurd (let k : On false ≡ Hit = h in cc);
      left = λ d h. left_first d h ∙ b.left d (has_others d h);
      closer = λ next h. subst (λ next. places_left next m list < places_left behind p list) (on_same false next h)
          (less false (b.row ∙ a.row) (λ y h. onward behind false p m y (onward behind true p n m (a.reached shown) (b.forward refl)) h) (not_back n m (b.forward refl)));
    }

    -- the document has all terms
    pub round_hits : IsAgreement list (drop 1 terms) n m Here → not (list_any (has_term list m) without) ≡ true → IsRound list terms without behind p m Hit
    unfolding matches
    round_hits b lacks = record {
      row = b.row ∙ a.row;
      hit = λ h. ap (λ c. c && not (list_any (has_term list m) without)) (all_parts (has_term list m) terms t some (subst (λ m. has_term list m first ≡ true) (sym (b.here refl).0) (a.shown shown)) (b.here refl).1) ∙ lacks;
      left = λ d h. left_first d h ∙ b.left d (has_others d h);
      closer = λ next h. absurd (let k : Hit ≡ On next = h in cc);
    }

    -- it has one of those that it is to be without
    pub round_passes : IsAgreement list (drop 1 terms) n m Here → not (list_any (has_term list m) without) ≡ false → IsRound list terms without behind p m (On true)
    round_passes b lacks = record {
      row = b.row ∙ a.row;
      hit = λ h. absurd (let k : On true ≡ Hit = h in cc);
      left = λ d h. left_first d h ∙ b.left d (has_others d h) ∙ apart terms without list m d h (fails terms without list m lacks);
      closer = λ next h. subst (λ next. places_left next m list < places_left behind p list) (on_same true next h)
          (less true (b.row ∙ a.row) (λ y h. onward behind true p m y (subst (λ m. lies_from behind p m ≡ true) (sym (b.here refl).0) (a.reached shown)) h) (subst (λ m. lies_from true m n ≡ false) (sym (b.here refl).0) (not_behind n)));
    }

-- ---- the next row

row_on : (a b c : Cell) → in_later_row a b ≡ true → in_later_row b c ≡ true → in_later_row a c ≡ true
unfolding in_later_row
row_on a b c h k = gt_up nat_list_cmp_total a.key.row b.key.row c.key.row h (low (bytes_cmp c.key.row b.key.row) (bytes_cmp b.key.row c.key.row) (ge_back nat_list_cmp_total c.key.row b.key.row) k)
  where
    low : (o r : Ordering) → is_ge o ≡ not (is_gt r) → is_gt o ≡ true → is_gt r ≡ false
    low o r e k = grind (arith, e, k)

row_parts : (p n y : Cell) → in_later_row p n ≡ true → same_bytes n.key.row y.key.row ≡ true → (in_later_row p y && not (in_later_row n y)) ≡ true
unfolding in_later_row
row_parts p n y h s =
    let same : n.key.row ≡ y.key.row = equal_texts n.key.row y.key.row s in
    two (ap (λ row. is_gt (bytes_cmp row p.key.row)) (sym same) ∙ h) (ap (λ row. is_gt (bytes_cmp row n.key.row)) (sym same) ∙ ap is_gt (text_itself n.key.row))
  where
    two : {b c : Bool} → b ≡ true → c ≡ false → (b && not c) ≡ true
    two h k = grind arith

-- a later row leaves less
less_rows : (list : List Cell) (behind : Bool) (p n : Cell) → in_later_row p n ≡ true → list_any (λ y. same_bytes n.key.row y.key.row) list ≡ true → places_left false n list < places_left behind p list
unfolding places_left
less_rows list behind p n h has =
    let most : length (filter (lies_from false n) list) ≤ length (filter (lies_from behind p) list) = count_most (lies_from false n) (lies_from behind p) list (λ y k. onward behind false p n y (later_reaches behind p n h) k) in
    let fewer : length (filter (in_later_row n) list) < length (filter (in_later_row p) list) = count_less (in_later_row n) (in_later_row p) list (λ y k. row_on p n y h k) (any_more (λ y. same_bytes n.key.row y.key.row) (λ y. in_later_row p y && not (in_later_row n y)) list (λ y s. row_parts p n y h s) has) in
    omega arith

later_than : (p m n : Cell) → m.key.row ≡ p.key.row → is_gt (bytes_cmp n.key.row m.key.row) ≡ true → in_later_row p n ≡ true
unfolding in_later_row
later_than p m n row h = ap (λ row. is_gt (bytes_cmp n.key.row row)) (sym row) ∙ h

pub row_closer : (list : List Cell) (behind : Bool) (p m n : Cell) (found : Bool) → m.key.row ≡ p.key.row → IsRowStart list (BehindRow m.key.row) n found → found ≡ true → places_left false n list < places_left behind p list
row_closer list behind p m n found row start h = less_rows list behind p n (later_than p m n row (start.behind h)) (start.some h)

-- ---- the search goes on

-- what is left behind a row, from the next on
row_left : (list : List Cell) (m n d : Cell) (found : Bool) (term : List ℕ) → IsRowStart list (BehindRow m.key.row) n found → has_term list d term ≡ true → in_later_row m d ≡ (found && lies_from false n d)
unfolding in_later_row
row_left list m n d found term start has = start.left d term has

module _ (list : List Cell) (terms without : List (List ℕ)) (behind : Bool) (p : Cell) where
  -- no document was left out so far
  abbrev pub IsLeft : Bool → Cell → Type 0
  IsLeft b n = (d : Cell) → matches terms without list d ≡ true → lies_from behind p d ≡ lies_from b n d

  row_next : 1 ≤ length terms → (b : Bool) (n m r : Cell) (found : Bool) → IsLeft b n → IsRound list terms without b n m Row → IsRowStart list (BehindRow m.key.row) r found → (d : Cell) → matches terms without list d ≡ true → lies_from behind p d ≡ (found && lies_from false r d)
  row_next some b n m r found left round start d h =
      left d h ∙ round.left d h ∙ row_left list m r d found (get_or terms 0 []) start (all_at (has_term list d) terms 0 [] some (matches_all terms without list d h))

  pub left_row : 1 ≤ length terms → (b : Bool) (n m r : Cell) (found : Bool) → found ≡ true → IsLeft b n → IsRound list terms without b n m Row → IsRowStart list (BehindRow m.key.row) r found → IsLeft false r
  left_row some b n m r found f left round start = λ d h. row_next some b n m r found left round start d h ∙ ap (λ c. c && lies_from false r d) f

  pub left_none : 1 ≤ length terms → (b : Bool) (n m r : Cell) (found : Bool) → found ≡ false → IsLeft b n → IsRound list terms without b n m Row → IsRowStart list (BehindRow m.key.row) r found → IsSearch list terms without behind p r false
  left_none some b n m r found f left round start = record {
    hit = λ h. no h;
    left = λ d h. row_next some b n m r found left round start d h ∙ ap (λ c. c && lies_from false r d) f;
  }
