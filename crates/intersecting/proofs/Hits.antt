-- The entries of the documents that match: which these are, and what is left of them from one on.
use Rattle.std.proofs.Common.{◌≡◌, ◌&&◌, ◌||◌, not, ℕ, Bool, true, false, cond, List, [], ◌∷◌, map, length, get_or, ◌≤◌, refl, sym, ap, ◌∙◌, arith, Less, Equal, Greater, Ordering}
use Rattle.std.specs.List.{AllByRecursion, filter, list_any, list_all}
use Rattle.std.specs.Ordering.{is_eq, is_gt, is_ge, ordering_then, ordering_reverse}
use Rattle.std.proofs.lemmas.Cmp.{upto}
use Rattle.tablet_model.specs.Cell.{Cell}
use Rattle.tablet_model.specs.Order.{above, bytes_cmp}
use Rattle.tablet_model.specs.Sorted.{Ascends}
use Rattle.tablet_model.specs.Kept.{filter_beside}
use Rattle.tablet_model.specs.Rows.{same_bytes, same_row, has_term, is_hit, leads_hit, intersect, intersect_terms, last_time}
use Rattle.tablet_model.proofs.Sums.{all_weaker}
use Rattle.tablet_model.proofs.CutLemmas.{ge_back}
use Rattle.tablet_model.proofs.Maps.{all_map}
use Rattle.tablet_model.proofs.Texts.{equal_texts, same_texts, text_itself}
use Rattle.intersecting.specs.Documents.{document_entry, matches}
use Rattle.intersecting.specs.Searches.{document_cmp, lies_from, is_under}
use Rattle.intersecting.specs.IntersectLaws.{Rises, kept_rises, leads_hits}
use Rattle.intersecting.proofs.Orders.{document_total}
use Rattle.intersecting.proofs.Firsts.{no}
use Rattle.intersecting.proofs.Agreements.{all_at}
use Rattle.intersecting.proofs.Rounds.{matches_all, same_matches, tied_parts}

-- an entry that stands for a document that matches
pub record IsHit (terms without : List (List ℕ)) (list : List Cell) (d : Cell) : Type 0 where
  pub shaped : d ≡ document_entry d
  pub matching : matches terms without list d ≡ true

-- ---- all match

module _ (first : List ℕ) (others without : List (List ℕ)) (list : List Cell) where
  abbrev leads : List Cell → Cell → Bool
  leads = leads_hit first others without list

  three : (a b c : Bool) → (a && (b && c)) ≡ true → (a ≡ true) × (b ≡ true) × (c ≡ true)
  three a b c h = grind arith

  join : (a b c : Bool) → a ≡ true → b ≡ true → c ≡ true → ((a && b) && c) ≡ true
  join a b c h k l = grind arith

  -- an entry has been met
  abbrev Met : List Cell → Cell → Type 0
  Met l e = (p : Cell → Bool) → p e ≡ true → list_any p l ≡ true

  -- a hit that the list has matches
  hit_matches : (e : Cell) → is_hit first others without list e ≡ true → Met list e → matches (first ∷ others) without list e ≡ true
  unfolding is_hit matches has_term same_row
  hit_matches e h met =
      let parts = three (same_bytes first e.key.family) (list_all (has_term list e) others) (not (list_any (has_term list e) without)) h in
      join (has_term list e first) (list_all (has_term list e) others) (not (list_any (has_term list e) without)) (met (is_under e first) (both parts.0)) parts.1 parts.2
    where
      both : same_bytes first e.key.family ≡ true → is_under e first e ≡ true
      both f = rw (same_texts e.key.row e.key.row refl, f, same_texts e.key.qualifier e.key.qualifier refl) refl

  all_hits : (before part : List Cell) → AllByRecursion (Met list) part → AllByRecursion (IsHit (first ∷ others) without list) (map document_entry (filter_beside leads before part))
  unfolding filter_beside
  all_hits before [] m = tt
  all_hits before (y ∷ ys) m = go (leads before y) refl (all_hits (y ∷ before) ys m.1)
    where
      hit : leads before y ≡ true → IsHit (first ∷ others) without list (document_entry y)
      hit l = record { shaped = refl; matching = same_matches (first ∷ others) without list (document_entry y) y refl refl ∙ hit_matches y (leads_hits first others without list before y l) m.0 }

      go : (b : Bool) → leads before y ≡ b → AllByRecursion (IsHit (first ∷ others) without list) (map document_entry (filter_beside leads (y ∷ before) ys)) → AllByRecursion (IsHit (first ∷ others) without list) (map document_entry (cond b (y ∷ filter_beside leads (y ∷ before) ys) (filter_beside leads (y ∷ before) ys)))
      go true l rest = (hit l, rest)
      go false l rest = rest

  -- a document that matches has its entry

  under_parts : (k y : Cell) → is_under k first y ≡ true → (k.key.row ≡ y.key.row) × (same_bytes first y.key.family ≡ true) × (k.key.qualifier ≡ y.key.qualifier)
  under_parts k y h =
      let parts = three (same_bytes k.key.row y.key.row) (same_bytes first y.key.family) (same_bytes k.key.qualifier y.key.qualifier) h in
      (equal_texts k.key.row y.key.row parts.0, parts.1, equal_texts k.key.qualifier y.key.qualifier parts.2)

  split : (a b c : Bool) → ((a && b) && c) ≡ true → (b && c) ≡ true
  split a b c h = grind arith

  leads_here : (k y : Cell) (before : List Cell) → matches (first ∷ others) without list k ≡ true → is_under k first y ≡ true → list_any (is_under k first) before ≡ false → leads before y ≡ true
  unfolding leads_hit is_hit matches same_row
  leads_here k y before h u m =
      let parts = under_parts k y u in
      let own = split (has_term list y first) (list_all (has_term list y) others) (not (list_any (has_term list y) without)) (same_matches (first ∷ others) without list y k (sym parts.0) (sym parts.2) ∙ h) in
      let unmet : list_any (is_under y first) before ≡ false = ap (λ row. list_any (λ z. same_bytes row z.key.row && (same_bytes first z.key.family && same_bytes y.key.qualifier z.key.qualifier)) before) (sym parts.0)
      ∙ ap (λ q. list_any (λ z. same_bytes k.key.row z.key.row && (same_bytes first z.key.family && same_bytes q z.key.qualifier)) before) (sym parts.2) ∙ m in
      together (same_bytes first y.key.family) (list_all (has_term list y) others && not (list_any (has_term list y) without)) (list_any (is_under y first) before) parts.1 own unmet
    where
      together : (a b c : Bool) → a ≡ true → b ≡ true → c ≡ false → ((a && b) && not c) ≡ true
      together a b c h k l = grind arith

  abbrev is_of : Cell → Cell → Bool
  is_of k d = is_eq (document_cmp d.key k.key)

  tied : (k y : Cell) → k.key.row ≡ y.key.row → k.key.qualifier ≡ y.key.qualifier → is_of k (document_entry y) ≡ true
  unfolding document_cmp
  tied k y r q =
      ap (λ row. is_eq (ordering_then (bytes_cmp row k.key.row) (bytes_cmp y.key.qualifier k.key.qualifier))) (sym r)
      ∙ ap (λ o. is_eq (ordering_then o (bytes_cmp y.key.qualifier k.key.qualifier))) (text_itself k.key.row)
      ∙ ap (λ document. is_eq (bytes_cmp document k.key.qualifier)) (sym q) ∙ ap is_eq (text_itself k.key.qualifier)

  has_hit : (k : Cell) (before part : List Cell) → matches (first ∷ others) without list k ≡ true → list_any (is_under k first) part ≡ true → list_any (is_under k first) before ≡ false → list_any (is_of k) (map document_entry (filter_beside leads before part)) ≡ true
  unfolding filter_beside
  has_hit k before [] h a m = a
  has_hit k before (y ∷ ys) h a m = go (is_under k first y) refl (λ u. has_hit k (y ∷ before) ys h (sym (ap (λ b. b || list_any (is_under k first) ys) u) ∙ a) (ap (λ b. b || list_any (is_under k first) before) u ∙ m))
    where
      here : is_under k first y ≡ true → list_any (is_of k) (map document_entry (cond (leads before y) (y ∷ filter_beside leads (y ∷ before) ys) (filter_beside leads (y ∷ before) ys))) ≡ true
      here u =
          let parts = under_parts k y u in
          ap (λ b. list_any (is_of k) (map document_entry (cond b (y ∷ filter_beside leads (y ∷ before) ys) (filter_beside leads (y ∷ before) ys)))) (leads_here k y before h u m)
          ∙ ap (λ b. b || list_any (is_of k) (map document_entry (filter_beside leads (y ∷ before) ys))) (tied k y parts.0 parts.2)

      later : (b : Bool) → list_any (is_of k) (map document_entry (filter_beside leads (y ∷ before) ys)) ≡ true → list_any (is_of k) (map document_entry (cond b (y ∷ filter_beside leads (y ∷ before) ys) (filter_beside leads (y ∷ before) ys))) ≡ true
      later true i = or_true (is_of k (document_entry y)) i
        where
          or_true : (c : Bool) → list_any (is_of k) (map document_entry (filter_beside leads (y ∷ before) ys)) ≡ true → (c || list_any (is_of k) (map document_entry (filter_beside leads (y ∷ before) ys))) ≡ true
          or_true true i = refl
          or_true false i = i
      later false i = i

      go : (b : Bool) → is_under k first y ≡ b → (is_under k first y ≡ false → list_any (is_of k) (map document_entry (filter_beside leads (y ∷ before) ys)) ≡ true)
          → list_any (is_of k) (map document_entry (cond (leads before y) (y ∷ filter_beside leads (y ∷ before) ys) (filter_beside leads (y ∷ before) ys))) ≡ true
      go true u i = here u
      go false u i = later (leads before y) (i u)

-- ---- the whole list

members : (list : List Cell) → AllByRecursion (λ y. (p : Cell → Bool) → p y ≡ true → list_any p list ≡ true) list
members [] = tt
members (x ∷ xs) = (
  (λ p h. ap (λ b. b || list_any p xs) h),
  all_weaker (λ y. (p : Cell → Bool) → p y ≡ true → list_any p xs ≡ true) (λ y. (p : Cell → Bool) → p y ≡ true → (p x || list_any p xs) ≡ true) (λ y m p h. or_right (p x) (list_any p xs) (m p h)) xs (members xs),
)
  where
    or_right : (a b : Bool) → b ≡ true → (a || b) ≡ true
    or_right true b h = refl
    or_right false b h = h

pub hits_match : (terms without : List (List ℕ)) (list : List Cell) → AllByRecursion (IsHit terms without list) (intersect_terms terms without list)
unfolding intersect_terms intersect
hits_match [] without list = tt
hits_match (first ∷ others) without list = all_hits first others without list [] list (members list)

shaped_rise : (xs : List Cell) → Rises xs → Rises (map document_entry xs)
unfolding document_cmp
shaped_rise [] h = tt
shaped_rise (x ∷ xs) h = (all_map (λ y. document_cmp x.key y.key ≡ Less) (λ y. document_cmp x.key y.key ≡ Less) document_entry (λ y k. k) xs h.0, shaped_rise xs h.1)

hits_rise : (terms without : List (List ℕ)) (list : List Cell) → Ascends above list → Rises (intersect_terms terms without list)
unfolding intersect_terms intersect
hits_rise [] without list up = tt
hits_rise (first ∷ others) without list up = shaped_rise (filter_beside (leads_hit first others without list) [] list) (kept_rises first others without list [] list up)

has_first : (first : List ℕ) (others without : List (List ℕ)) (list : List Cell) (k : Cell) → matches (first ∷ others) without list k ≡ true → list_any (is_under k first) list ≡ true
unfolding matches has_term same_row
has_first first others without list k h = left (list_any (is_under k first) list) (list_all (has_term list k) others) (not (list_any (has_term list k) without)) h
  where
    left : (a b c : Bool) → ((a && b) && c) ≡ true → a ≡ true
    left a b c h = grind arith

hits_have : (terms without : List (List ℕ)) (list : List Cell) (k : Cell) → 1 ≤ length terms → matches terms without list k ≡ true → list_any (λ d. is_eq (document_cmp d.key k.key)) (intersect_terms terms without list) ≡ true
unfolding intersect_terms intersect
hits_have [] without list k l h = absurd (omega arith)
hits_have (first ∷ others) without list k l h = has_hit first others without list k [] list h (has_first first others without list k h) refl

-- ---- from one on

module _ (k : Cell) where
  behind_all : (x : Cell) (xs : List Cell) → is_ge (document_cmp x.key k.key) ≡ true → AllByRecursion (λ y. document_cmp x.key y.key ≡ Less) xs → AllByRecursion (λ y. document_cmp y.key k.key ≡ Greater) xs
  behind_all x [] h a = tt
  behind_all x (y ∷ ys) h a = (farther y a.0, behind_all x ys h a.1)
    where
      greater : (o : Ordering) → is_gt o ≡ true → o ≡ Greater
      greater o h = grind arith

      down : (o r : Ordering) → is_ge o ≡ not (is_gt r) → is_ge o ≡ true → is_gt r ≡ false
      down o r e h = grind (arith, e, h)

      up : (o r : Ordering) → is_ge r ≡ not (is_gt o) → o ≡ Less → is_ge r ≡ true
      up o r e h = grind (arith, e, h)

      farther : (y : Cell) → document_cmp x.key y.key ≡ Less → document_cmp y.key k.key ≡ Greater
      farther y l = greater (document_cmp y.key k.key) (go (is_gt (document_cmp y.key k.key)) refl)
        where
          go : (b : Bool) → is_gt (document_cmp y.key k.key) ≡ b → b ≡ true
          go true e = refl
          go false e =
              let low : is_gt (document_cmp y.key x.key) ≡ false = upto document_total y.key k.key x.key e (down (document_cmp x.key k.key) (document_cmp k.key x.key) (ge_back document_total x.key k.key) h) in
              no (sym low ∙ up_gt l)
            where
              up_gt : document_cmp x.key y.key ≡ Less → is_gt (document_cmp y.key x.key) ≡ true
              up_gt l = ap is_gt (document_total.antisymm y.key x.key) ∙ ap (λ o. is_gt (ordering_reverse o)) l

  none_tie : (xs : List Cell) → AllByRecursion (λ y. document_cmp y.key k.key ≡ Greater) xs → list_any (λ d. is_eq (document_cmp d.key k.key)) xs ≡ false
  none_tie [] a = refl
  none_tie (x ∷ xs) a = rw (a.0, none_tie xs a.1) refl

  all_from : (behind : Bool) (xs : List Cell) → AllByRecursion (λ y. document_cmp y.key k.key ≡ Greater) xs → filter (lies_from behind k) xs ≡ xs
  unfolding lies_from
  all_from behind [] a = refl
  all_from true (x ∷ xs) a = rw a.0 (ap (λ l. x ∷ l) (all_from true xs a.1))
  all_from false (x ∷ xs) a = rw a.0 (ap (λ l. x ∷ l) (all_from false xs a.1))

  from_one : (terms without : List (List ℕ)) (list xs : List Cell) → Rises xs → AllByRecursion (IsHit terms without list) xs → list_any (λ d. is_eq (document_cmp d.key k.key)) xs ≡ true → filter (lies_from false k) xs ≡ document_entry k ∷ filter (lies_from true k) xs
  unfolding lies_from
  from_one terms without list [] up all h = no h
  from_one terms without list (x ∷ xs) up all h = go (document_cmp x.key k.key) refl (λ m. from_one terms without list xs up.1 all.1 m)
    where
      entry : document_cmp x.key k.key ≡ Equal → x ≡ document_entry k
      entry e =
          let parts = tied_parts x k e in
          all.0.shaped ∙ (λ i. record { key = record { row = parts.0 i; family = []; qualifier = parts.1 i; visibility = []; time = last_time; deleted = false }; value = [] })

      go : (o : Ordering) → document_cmp x.key k.key ≡ o → (list_any (λ d. is_eq (document_cmp d.key k.key)) xs ≡ true → filter (lies_from false k) xs ≡ document_entry k ∷ filter (lies_from true k) xs)
          → filter (lies_from false k) (x ∷ xs) ≡ document_entry k ∷ filter (lies_from true k) (x ∷ xs)
      go Less e i = rw e (i (sym (ap (λ o. is_eq o || list_any (λ d. is_eq (document_cmp d.key k.key)) xs) e) ∙ h))
      go Equal e i =
          let above_all = behind_all x xs (ap is_ge e) up.0 in
          rw e (ap (λ x. x ∷ filter (lies_from false k) xs) (entry e) ∙ ap (λ l. document_entry k ∷ l) (all_from false xs above_all ∙ sym (all_from true xs above_all)))
      go Greater e i = no (sym (ap (λ o. is_eq o || list_any (λ d. is_eq (document_cmp d.key k.key)) xs) e ∙ none_tie xs (behind_all x xs (ap is_ge e) up.0)) ∙ h)

-- the documents from one on that matches: its entry, and those behind it
pub from_hit : (terms without : List (List ℕ)) (list : List Cell) (k : Cell) → Ascends above list → 1 ≤ length terms → matches terms without list k ≡ true
    → filter (lies_from false k) (intersect_terms terms without list) ≡ document_entry k ∷ filter (lies_from true k) (intersect_terms terms without list)
from_hit terms without list k up some h =
    from_one k terms without list (intersect_terms terms without list) (hits_rise terms without list up) (hits_match terms without list) (hits_have terms without list k some h)

-- a term that such a document has
pub matches_first : (terms without : List (List ℕ)) (list : List Cell) (d : Cell) → 1 ≤ length terms → matches terms without list d ≡ true → (term : List ℕ) × (has_term list d term ≡ true)
matches_first terms without list d some h = (get_or terms 0 [], all_at (has_term list d) terms 0 [] some (matches_all terms without list d h))
