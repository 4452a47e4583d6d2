-- What the first entry behind a place tells of the documents under a term.
use Rattle.std.proofs.Common.{◌≡◌, ◌&&◌, ◌||◌, not, ℕ, Bool, true, false, cond, List, [], ◌∷◌, refl, sym, ap, ◌∙◌, subst, arith, Equal, Less, Greater, Ordering}
use Rattle.std.specs.List.{AllByRecursion, filter, list_any}
use Rattle.std.specs.Ordering.{is_eq, is_gt, is_ge, ordering_then}
use Rattle.std.proofs.lemmas.Cmp.{tied_itself}
use Rattle.std.proofs.lemmas.Map.Lookups.{exact_bytes}
use Rattle.tablet_model.specs.Cell.{Cell, CellKey}
use Rattle.tablet_model.specs.Order.{above, bytes_cmp}
use Rattle.tablet_model.specs.Sorted.{Ascends}
use Rattle.tablet_model.specs.Rows.{same_bytes, same_row, has_term}
use Rattle.tablet_model.proofs.CutLemmas.{ge_back, gt_up, ge_up}
use Rattle.tablet_model.proofs.Bools.{both-of-and, false-of-not}
use Rattle.tablet_model.proofs.Texts.{equal_texts, same_texts, text_itself}
use Rattle.intersecting.specs.Searches.{document_cmp, index_cmp, document_start, is_under, reaches, lies_from, in_later_row}
use Rattle.intersecting.proofs.Orders.{document_total, index_total, above_le}

-- ---- what lists have

pub no : {A : Type 0} → false ≡ true → A
no h = absurd (let k : false ≡ true = h in cc)

-- what follows from each entry that passes, where one passes
pub any_witness : (p : Cell → Bool) (Q : Type 0) (list : List Cell) → list_any p list ≡ true → AllByRecursion (λ y. p y ≡ true → Q) list → Q
any_witness p Q [] h a = no h
any_witness p Q (y ∷ ys) h a = go (p y) refl h (λ m. any_witness p Q ys m a.1)
  where
    go : (b : Bool) → p y ≡ b → (b || list_any p ys) ≡ true → (list_any p ys ≡ true → Q) → Q
    go true k m i = a.0 k
    go false k m i = i m

-- the first that passes is the first of those that pass
pub first_least : (q : Cell → Bool) (list : List Cell) (e : Cell) (es : List Cell) → Ascends above list → filter q list ≡ e ∷ es
    → AllByRecursion (λ y. q y ≡ true → is_gt (index_cmp e.key y.key) ≡ false) list × (q e ≡ true) × ((t : Cell → Bool) → t e ≡ true → list_any t list ≡ true)
unfolding Ascends
first_least q [] e es up h = absurd cc
first_least q (x ∷ xs) e es up h = go (q x) refl h (λ l. first_least q xs e es up.1 l)
  where
    here : (y : Cell) → is_gt (index_cmp y.key y.key) ≡ false
    here y = ap is_gt (tied_itself index_total y.key)

    all_of : (ys : List Cell) → AllByRecursion (λ y. above x y ≡ false) ys → AllByRecursion (λ y. q y ≡ true → is_gt (index_cmp x.key y.key) ≡ false) ys
    all_of [] a = tt
    all_of (y ∷ ys) a = ((λ k. above_le x y a.0), all_of ys a.1)

    heads : (a b : Cell) (xs ys : List Cell) → a ∷ xs ≡ b ∷ ys → a ≡ b
    heads a b xs ys k = cc

    or_true : (t : Cell → Bool) (b : Bool) → list_any t xs ≡ true → (b || list_any t xs) ≡ true
    or_true t true k = refl
    or_true t false k = k

    go : (b : Bool) → q x ≡ b → cond b (x ∷ filter q xs) (filter q xs) ≡ e ∷ es
        → (filter q xs ≡ e ∷ es → AllByRecursion (λ y. q y ≡ true → is_gt (index_cmp e.key y.key) ≡ false) xs × (q e ≡ true) × ((t : Cell → Bool) → t e ≡ true → list_any t xs ≡ true))
        → AllByRecursion (λ y. q y ≡ true → is_gt (index_cmp e.key y.key) ≡ false) (x ∷ xs) × (q e ≡ true) × ((t : Cell → Bool) → t e ≡ true → list_any t (x ∷ xs) ≡ true)
    go true k l i =
        let same : x ≡ e = heads x e (filter q xs) es l in
        subst (λ e. AllByRecursion (λ y. q y ≡ true → is_gt (index_cmp e.key y.key) ≡ false) (x ∷ xs) × (q e ≡ true) × ((t : Cell → Bool) → t e ≡ true → list_any t (x ∷ xs) ≡ true)) same
        (((λ m. here x), all_of xs up.0), k, (λ t m. ap (λ b. b || list_any t xs) m))
    go false k l i = (((λ m. no (sym k ∙ m)), (i l).0), (i l).1, (λ t m. or_true t (t x) ((i l).2 t m)))

pub none_pass : (q : Cell → Bool) (list : List Cell) → filter q list ≡ [] → AllByRecursion (λ y. q y ≡ false) list
none_pass q [] h = tt
none_pass q (x ∷ xs) h = go (q x) refl h (λ l. none_pass q xs l)
  where
    cons_nil : (a : Cell) (xs : List Cell) → a ∷ xs ≡ [] → ⊥
    cons_nil a xs l = grind arith

    go : (b : Bool) → q x ≡ b → cond b (x ∷ filter q xs) (filter q xs) ≡ [] → (filter q xs ≡ [] → AllByRecursion (λ y. q y ≡ false) xs) → AllByRecursion (λ y. q y ≡ false) (x ∷ xs)
    go true k l i = absurd (cons_nil x (filter q xs) l)
    go false k l i = (k, i l)

-- ---- documents under a term

and_parts : (a b c : Bool) → (a && (b && c)) ≡ true → (a ≡ true) × (b ≡ true) × (c ≡ true)
and_parts a b c h = grind arith

-- an entry of a document under a term stands to the document's first key as the document to the place
beside_cmp : (p d y : Cell) (term : List ℕ) → is_under d term y ≡ true → index_cmp y.key (document_start p term) ≡ document_cmp d.key p.key
unfolding index_cmp document_cmp
beside_cmp p d y term h =
    let parts = and_parts (same_bytes d.key.row y.key.row) (same_bytes term y.key.family) (same_bytes d.key.qualifier y.key.qualifier) h in
    ap (λ r. ordering_then (ordering_then (bytes_cmp r p.key.row) (bytes_cmp y.key.family term)) (bytes_cmp y.key.qualifier p.key.qualifier)) (sym (equal_texts d.key.row y.key.row parts.0))
    ∙ ap (λ (f : List ℕ). ordering_then (ordering_then (bytes_cmp d.key.row p.key.row) (bytes_cmp f term)) (bytes_cmp y.key.qualifier p.key.qualifier)) (sym (equal_texts term y.key.family parts.1))
    ∙ ap (λ f. ordering_then (ordering_then (bytes_cmp d.key.row p.key.row) f) (bytes_cmp y.key.qualifier p.key.qualifier)) (text_itself term)
    ∙ ap (λ o. ordering_then o (bytes_cmp y.key.qualifier p.key.qualifier)) (then_tie (bytes_cmp d.key.row p.key.row))
    ∙ ap (λ q. ordering_then (bytes_cmp d.key.row p.key.row) (bytes_cmp q p.key.qualifier)) (sym (equal_texts d.key.qualifier y.key.qualifier parts.2))
  where
    then_tie : (o : Ordering) → ordering_then o Equal ≡ o
    then_tie Less = refl
    then_tie Equal = refl
    then_tie Greater = refl

-- the same, seen from the document
beside_turned : (p d y : Cell) (term : List ℕ) → is_under d term y ≡ true → p.key.family ≡ term → index_cmp p.key y.key ≡ document_cmp p.key d.key
unfolding index_cmp document_cmp
beside_turned p d y term h f =
    let parts = and_parts (same_bytes d.key.row y.key.row) (same_bytes term y.key.family) (same_bytes d.key.qualifier y.key.qualifier) h in
    ap (λ r. ordering_then (ordering_then (bytes_cmp p.key.row r) (bytes_cmp p.key.family y.key.family)) (bytes_cmp p.key.qualifier y.key.qualifier)) (sym (equal_texts d.key.row y.key.row parts.0))
    ∙ ap (λ (g : List ℕ). ordering_then (ordering_then (bytes_cmp p.key.row d.key.row) (bytes_cmp g y.key.family)) (bytes_cmp p.key.qualifier y.key.qualifier)) (f ∙ equal_texts term y.key.family parts.1)
    ∙ ap (λ g. ordering_then (ordering_then (bytes_cmp p.key.row d.key.row) g) (bytes_cmp p.key.qualifier y.key.qualifier)) (text_itself y.key.family)
    ∙ ap (λ o. ordering_then o (bytes_cmp p.key.qualifier y.key.qualifier)) (then_tie (bytes_cmp p.key.row d.key.row))
    ∙ ap (λ q. ordering_then (bytes_cmp p.key.row d.key.row) (bytes_cmp p.key.qualifier q)) (sym (equal_texts d.key.qualifier y.key.qualifier parts.2))
  where
    then_tie : (o : Ordering) → ordering_then o Equal ≡ o
    then_tie Less = refl
    then_tie Equal = refl
    then_tie Greater = refl

-- a list has a document under a term where an entry of it passes
pub has_witness : (list : List Cell) (d : Cell) (term : List ℕ) (Q : Type 0) → has_term list d term ≡ true → AllByRecursion (λ y. is_under d term y ≡ true → Q) list → Q
unfolding has_term same_row
has_witness list d term Q h a = any_witness (is_under d term) Q list h a

-- a later row is reached, whatever the documents
pub later_reaches : (behind : Bool) (p d : Cell) → in_later_row p d ≡ true → lies_from behind p d ≡ true
unfolding in_later_row lies_from document_cmp
later_reaches behind p d h = go behind (bytes_cmp d.key.row p.key.row) (bytes_cmp d.key.qualifier p.key.qualifier) h
  where
    go : (b : Bool) (r q : Ordering) → is_gt r ≡ true → reaches b (ordering_then r q) ≡ true
    go true Less q h = h
    go false Less q h = no h
    go true Equal q h = no h
    go false Equal q h = no h
    go true Greater q h = refl
    go false Greater q h = refl

module _ (behind : Bool) (p : Cell) (term : List ℕ) (list : List Cell) (rising : Ascends above list) where
  abbrev start : CellKey
  start = document_start p term

  abbrev passes : Cell → Bool
  passes y = reaches behind (index_cmp y.key start)

  -- where nothing stands behind the place, no document does
  none_left : filter passes list ≡ [] → (d : Cell) → has_term list d term ≡ true → lies_from behind p d ≡ false
  unfolding lies_from
  none_left h d has = has_witness list d term (reaches behind (document_cmp d.key p.key) ≡ false) has (each list (none_pass passes list h))
    where
      each : (ys : List Cell) → AllByRecursion (λ y. passes y ≡ false) ys → AllByRecursion (λ y. is_under d term y ≡ true → reaches behind (document_cmp d.key p.key) ≡ false) ys
      each [] a = tt
      each (y ∷ ys) a = ((λ u. ap (reaches behind) (sym (beside_cmp p d y term u)) ∙ a.0), each ys a.1)

  both_false : (a b : Bool) → (b ≡ true → a ≡ true) → a ≡ false → a ≡ b
  both_false a true f h = no (sym h ∙ f refl)
  both_false a false f h = h

  pub nowhere_left : filter passes list ≡ [] → (d : Cell) → has_term list d term ≡ true → lies_from behind p d ≡ in_later_row p d
  nowhere_left h d has = both_false (lies_from behind p d) (in_later_row p d) (later_reaches behind p d) (none_left h d has)

  module _ (e : Cell) (es : List Cell) (found : filter passes list ≡ e ∷ es) where
    abbrev least : AllByRecursion (λ y. passes y ≡ true → is_gt (index_cmp e.key y.key) ≡ false) list × (passes e ≡ true) × ((t : Cell → Bool) → t e ≡ true → list_any t list ≡ true)
    least = first_least passes list e es rising found

    -- ---- the first entry is of another row or term

    squeezed : (behind : Bool) (r f a b : Ordering) → reaches behind (ordering_then (ordering_then r f) a) ≡ true → is_gt (ordering_then (ordering_then r f) b) ≡ false → (is_eq r && is_eq f) ≡ true
    squeezed true Less f a b h k = no h
    squeezed false Less f a b h k = no h
    squeezed true Greater f a b h k = no (sym k)
    squeezed false Greater f a b h k = no (sym k)
    squeezed true Equal Less a b h k = no h
    squeezed false Equal Less a b h k = no h
    squeezed true Equal Equal a b h k = refl
    squeezed false Equal Equal a b h k = refl
    squeezed true Equal Greater a b h k = no (sym k)
    squeezed false Equal Greater a b h k = no (sym k)

    -- a document of the row that is reached puts the first entry into the row and under the term
    same_block : (d y : Cell) → is_under d term y ≡ true → bytes_cmp d.key.row p.key.row ≡ Equal → is_gt (index_cmp e.key y.key) ≡ false → (same_bytes e.key.row p.key.row && same_bytes e.key.family term) ≡ true
    unfolding index_cmp same_bytes
    same_block d y u row low =
        let parts = and_parts (same_bytes d.key.row y.key.row) (same_bytes term y.key.family) (same_bytes d.key.qualifier y.key.qualifier) u in
        let here : y.key.row ≡ p.key.row = sym (equal_texts d.key.row y.key.row parts.0) ∙ exact_bytes d.key.row p.key.row row in
        let under_term : y.key.family ≡ term = sym (equal_texts term y.key.family parts.1) in
        squeezed behind (bytes_cmp e.key.row p.key.row) (bytes_cmp e.key.family term) (bytes_cmp e.key.qualifier p.key.qualifier) (bytes_cmp e.key.qualifier y.key.qualifier) least.1
        (ap (λ r. is_gt (ordering_then (ordering_then (bytes_cmp e.key.row r) (bytes_cmp e.key.family term)) (bytes_cmp e.key.qualifier y.key.qualifier))) (sym here)
        ∙ ap (λ (f : List ℕ). is_gt (ordering_then (ordering_then (bytes_cmp e.key.row y.key.row) (bytes_cmp e.key.family f)) (bytes_cmp e.key.qualifier y.key.qualifier))) (sym under_term) ∙ low)

    pub elsewhere : (same_bytes e.key.row p.key.row && same_bytes e.key.family term) ≡ false → (d : Cell) → has_term list d term ≡ true → lies_from behind p d ≡ in_later_row p d
    unfolding lies_from in_later_row document_cmp
    elsewhere other d has = go (bytes_cmp d.key.row p.key.row) refl
      where
        apart : (r q : Ordering) → (r ≡ Equal → ⊥) → (b : Bool) → reaches b (ordering_then r q) ≡ is_gt r
        apart Less q n true = refl
        apart Less q n false = refl
        apart Equal q n b = absurd (n refl)
        apart Greater q n true = refl
        apart Greater q n false = refl

        not_reached : bytes_cmp d.key.row p.key.row ≡ Equal → reaches behind (document_cmp d.key p.key) ≡ false
        not_reached row = has_witness list d term (reaches behind (document_cmp d.key p.key) ≡ false) has (each list least.0)
          where
            here : (y : Cell) → (passes y ≡ true → is_gt (index_cmp e.key y.key) ≡ false) → is_under d term y ≡ true → (b : Bool) → reaches behind (document_cmp d.key p.key) ≡ b → b ≡ false
            here y low u false k = refl
            here y low u true k = sym (same_block d y u row (low (ap (reaches behind) (beside_cmp p d y term u) ∙ k))) ∙ other

            each : (ys : List Cell) → AllByRecursion (λ y. passes y ≡ true → is_gt (index_cmp e.key y.key) ≡ false) ys → AllByRecursion (λ y. is_under d term y ≡ true → reaches behind (document_cmp d.key p.key) ≡ false) ys
            each [] a = tt
            each (y ∷ ys) a = ((λ u. here y a.0 u (reaches behind (document_cmp d.key p.key)) refl), each ys a.1)

        go : (r : Ordering) → bytes_cmp d.key.row p.key.row ≡ r → reaches behind (ordering_then (bytes_cmp d.key.row p.key.row) (bytes_cmp d.key.qualifier p.key.qualifier)) ≡ is_gt (bytes_cmp d.key.row p.key.row)
        go Less k = apart (bytes_cmp d.key.row p.key.row) (bytes_cmp d.key.qualifier p.key.qualifier) (λ m. (let n : Less ≡ Equal = sym k ∙ m in absurd cc)) behind
        go Greater k = apart (bytes_cmp d.key.row p.key.row) (bytes_cmp d.key.qualifier p.key.qualifier) (λ m. (let n : Greater ≡ Equal = sym k ∙ m in absurd cc)) behind
        go Equal k = not_reached k ∙ sym (ap is_gt k)

    -- ---- the first entry is of the row and the term

    module _ (here : (same_bytes e.key.row p.key.row && same_bytes e.key.family term) ≡ true) where
      pub of_row : e.key.row ≡ p.key.row
      of_row = equal_texts e.key.row p.key.row (both-of-and (same_bytes e.key.row p.key.row) (same_bytes e.key.family term) here).0

      pub of_term : e.key.family ≡ term
      of_term = equal_texts e.key.family term (both-of-and (same_bytes e.key.row p.key.row) (same_bytes e.key.family term) here).1

      itself_under : is_under e term e ≡ true
      itself_under = three (same_texts e.key.row e.key.row refl) (same_texts term e.key.family (sym of_term)) (same_texts e.key.qualifier e.key.qualifier refl)
        where
          three : {a b c : Bool} → a ≡ true → b ≡ true → c ≡ true → (a && (b && c)) ≡ true
          three h k l = grind arith

      -- the list has its document, and the document is reached
      pub has_first : has_term list e term ≡ true
      unfolding has_term same_row
      has_first = least.2 (is_under e term) itself_under

      pub first_reached : lies_from behind p e ≡ true
      unfolding lies_from
      first_reached = ap (reaches behind) (sym (beside_cmp p e e term itself_under)) ∙ least.1

      -- what reaches the place is from the first entry on
      pub from_first_on : (d : Cell) → has_term list d term ≡ true → lies_from behind p d ≡ lies_from false e d
      unfolding lies_from
      from_first_on d has = has_witness list d term (reaches behind (document_cmp d.key p.key) ≡ is_ge (document_cmp d.key e.key)) has (each list least.0)
        where
          up : (b : Bool) → reaches b (document_cmp e.key p.key) ≡ true → is_gt (document_cmp e.key d.key) ≡ false → reaches b (document_cmp d.key p.key) ≡ true
          up true h g = gt_up document_total p.key e.key d.key h g
          up false h g = ge_up document_total p.key e.key d.key h g

          equal : (y : Cell) → (passes y ≡ true → is_gt (index_cmp e.key y.key) ≡ false) → is_under d term y ≡ true → (a b : Bool) → reaches behind (document_cmp d.key p.key) ≡ a → is_ge (document_cmp d.key e.key) ≡ b → a ≡ b
          equal y low u true b k m =
              sym (ge_back document_total d.key e.key ∙ ap not (ap is_gt (sym (beside_turned e d y term u of_term)) ∙ low (ap (reaches behind) (beside_cmp p d y term u) ∙ k))) ∙ m
          equal y low u false true k m = sym k ∙ up behind first_reached (false-of-not (is_gt (document_cmp e.key d.key)) (sym (ge_back document_total d.key e.key) ∙ m))
          equal y low u false false k m = refl

          each : (ys : List Cell) → AllByRecursion (λ y. passes y ≡ true → is_gt (index_cmp e.key y.key) ≡ false) ys → AllByRecursion (λ y. is_under d term y ≡ true → reaches behind (document_cmp d.key p.key) ≡ is_ge (document_cmp d.key e.key)) ys
          each [] a = tt
          each (y ∷ ys) a = ((λ u. equal y a.0 u (reaches behind (document_cmp d.key p.key)) (is_ge (document_cmp d.key e.key)) refl refl), each ys a.1)
