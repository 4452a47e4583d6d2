-- The entries of documents that match are in order. This is this project's own.
use Rattle.std.proofs.Common.{◌≡◌, ◌&&◌, ◌||◌, not, ℕ, Bool, true, false, cond, List, [], ◌∷◌, map, refl, sym, ap, ◌∙◌, Equal, Less, Greater, Ordering}
use Rattle.std.specs.Prelude.{⊤}
use Rattle.std.specs.List.{AllByRecursion, list_any}
use Rattle.std.specs.Ordering.{is_gt, ordering_then}
use Rattle.std.proofs.lemmas.Map.Lookups.{exact_bytes}
use Rattle.tablet_model.specs.Cell.{Cell}
use Rattle.tablet_model.specs.Order.{above, cell_cmp, key_cmp, column_cmp, bytes_cmp}
use Rattle.tablet_model.specs.Sorted.{Ascends}
use Rattle.tablet_model.specs.Kept.{filter_beside}
use Rattle.tablet_model.specs.Rows.{same_bytes, same_row, is_hit, leads_hit, intersect, intersect_terms}
use Rattle.tablet_model.proofs.Bools.{both-of-and, false-of-not}
use Rattle.tablet_model.proofs.CutLemmas.{key_le}
use Rattle.tablet_model.proofs.Maps.{all_map}
use Rattle.tablet_model.proofs.Texts.{equal_texts, same_texts, text_itself}
use Rattle.intersecting.specs.Documents.{document_entry}
use Rattle.intersecting.specs.Searches.{document_cmp}

-- what does not hold shows anything
wrong : {A : Type 0} (a b : A) → false ≡ true → a ≡ b
wrong a b h = ap (λ c. cond c b a) h

-- documents rise strictly
abbrev pub Rises : List Cell → Type 0
Rises [] = ⊤
Rises (x ∷ xs) = AllByRecursion (λ y. document_cmp x.key y.key ≡ Less) xs × Rises xs

-- ---- two documents

module _ (first : List ℕ) (others without : List (List ℕ)) (list : List Cell) where
  abbrev leads : List Cell → Cell → Bool
  leads = leads_hit first others without list

  -- whether an entry is of the document of e under the first term
  abbrev beside : Cell → Cell → Bool
  beside e y = same_row e y && (same_bytes first y.key.family && same_bytes e.key.qualifier y.key.qualifier)

  pub leads_hits : (before : List Cell) (y : Cell) → leads before y ≡ true → is_hit first others without list y ≡ true
  unfolding leads_hit
  leads_hits before y h = (both-of-and (is_hit first others without list y) (not (list_any (beside y) before)) h).0

  leads_first : (before : List Cell) (y : Cell) → leads before y ≡ true → list_any (beside y) before ≡ false
  unfolding leads_hit
  leads_first before y h = false-of-not (list_any (beside y) before) (both-of-and (is_hit first others without list y) (not (list_any (beside y) before)) h).1

  of_first : (y : Cell) → is_hit first others without list y ≡ true → same_bytes first y.key.family ≡ true
  unfolding is_hit
  of_first y h = (both-of-and (same_bytes first y.key.family) _ h).0

  all_three : {a b c : Bool} → a ≡ true → b ≡ true → c ≡ true → (a && (b && c)) ≡ true
  all_three {a = a} {b = b} {c = c} h k l = ap (λ a. a && (b && c)) h ∙ ap (λ b. b && c) k ∙ l

  decide : (r f q v t : Ordering) → f ≡ Equal → is_gt (ordering_then (ordering_then (ordering_then (ordering_then r f) q) v) t) ≡ false → (r ≡ Equal → q ≡ Equal → false ≡ true) → ordering_then r q ≡ Less
  decide Less f q v t e low other = refl
  decide Greater f q v t e low other = wrong Greater Less (sym low)
  decide Equal f Less v t e low other = refl
  decide Equal f Equal v t e low other = wrong Equal Less (other refl refl)
  decide Equal f Greater v t e low other = wrong Greater Less (sym low ∙ ap (λ f. is_gt (ordering_then (ordering_then (ordering_then f Greater) v) t)) e)

  -- under one term, what isn't above and is of another document is below
  below : (e y : Cell) → same_bytes first e.key.family ≡ true → same_bytes first y.key.family ≡ true → above e y ≡ false → beside y e ≡ false → document_cmp e.key y.key ≡ Less
  unfolding document_cmp key_cmp column_cmp same_row
  below e y fe fy up other =
      decide (bytes_cmp e.key.row y.key.row) (bytes_cmp e.key.family y.key.family) (bytes_cmp e.key.qualifier y.key.qualifier) _ _
      (ap (bytes_cmp e.key.family) (sym (equal_texts first y.key.family fy) ∙ equal_texts first e.key.family fe) ∙ text_itself e.key.family)
      (key_le e y up)
      (λ r q. sym other ∙ all_three (same_texts y.key.row e.key.row (sym (exact_bytes e.key.row y.key.row r))) fe (same_texts y.key.qualifier e.key.qualifier (sym (exact_bytes e.key.qualifier y.key.qualifier q))))

  -- ---- what leads documents

  -- an entry has been met
  abbrev Met : Cell → List Cell → Type 0
  Met e before = (p : Cell → Bool) → p e ≡ true → list_any p before ≡ true

  met_first : (e : Cell) (before : List Cell) → Met e (e ∷ before)
  met_first e before p h = ap (λ b. b || list_any p before) h

  met_more : (e x : Cell) (before : List Cell) → Met e before → Met e (x ∷ before)
  met_more e x before m p h = or_right (p x) (list_any p before) (m p h)
    where
      or_right : (a b : Bool) → b ≡ true → (a || b) ≡ true
      or_right true b h = refl
      or_right false b h = h

  not_met : (e y : Cell) (before : List Cell) → Met e before → list_any (beside y) before ≡ false → (b : Bool) → beside y e ≡ b → b ≡ false
  not_met e y before m h false k = refl
  not_met e y before m h true k = sym (m (beside y) k) ∙ h

  rise_on : (e : Cell) (before part : List Cell) → same_bytes first e.key.family ≡ true → Met e before → AllByRecursion (λ y. above e y ≡ false) part → AllByRecursion (λ y. document_cmp e.key y.key ≡ Less) (filter_beside leads before part)
  unfolding filter_beside
  rise_on e before [] f m a = tt
  rise_on e before (y ∷ ys) f m a = go (leads before y) refl (rise_on e (y ∷ before) ys f (met_more e y before m) a.1)
    where
      go : (b : Bool) → leads before y ≡ b → AllByRecursion (λ y. document_cmp e.key y.key ≡ Less) (filter_beside leads (y ∷ before) ys) → AllByRecursion (λ y. document_cmp e.key y.key ≡ Less) (cond b (y ∷ filter_beside leads (y ∷ before) ys) (filter_beside leads (y ∷ before) ys))
      go true l rest = (below e y f (of_first y (leads_hits before y l)) a.0 (not_met e y before m (leads_first before y l) (beside y e) refl), rest)
      go false l rest = rest

  -- what leads documents rises with them
  pub kept_rises : (before part : List Cell) → Ascends above part → Rises (filter_beside leads before part)
  unfolding filter_beside Ascends
  kept_rises before [] up = tt
  kept_rises before (e ∷ es) up = go (leads before e) refl (kept_rises (e ∷ before) es up.1)
    where
      go : (b : Bool) → leads before e ≡ b → Rises (filter_beside leads (e ∷ before) es) → Rises (cond b (e ∷ filter_beside leads (e ∷ before) es) (filter_beside leads (e ∷ before) es))
      go true l rest = (rise_on e (e ∷ before) es (of_first e (leads_hits before e l)) (met_first e before) up.0, rest)
      go false l rest = rest

-- ---- the entries that stand for documents

in_order : (r f q v t w : Ordering) → f ≡ Equal → ordering_then r q ≡ Less → is_gt (ordering_then (ordering_then (ordering_then (ordering_then (ordering_then r f) q) v) t) w) ≡ false
in_order Less f q v t w e h = refl
in_order Equal f q v t w e h = ap (λ f. is_gt (ordering_then (ordering_then (ordering_then (ordering_then f q) v) t) w)) e ∙ ap (λ q. is_gt (ordering_then (ordering_then (ordering_then q v) t) w)) h
in_order Greater f q v t w e h = ap is_gt h

entry_order : (x y : Cell) → document_cmp x.key y.key ≡ Less → above (document_entry x) (document_entry y) ≡ false
unfolding above cell_cmp key_cmp column_cmp document_cmp
entry_order x y h = in_order (bytes_cmp x.key.row y.key.row) _ (bytes_cmp x.key.qualifier y.key.qualifier) _ _ _ refl h

Ascends-entries : (xs : List Cell) → Rises xs → Ascends above (map document_entry xs)
unfolding Ascends
Ascends-entries [] h = tt
Ascends-entries (x ∷ xs) h = (all_map (λ y. document_cmp x.key y.key ≡ Less) (λ y. above (document_entry x) y ≡ false) document_entry (λ y. entry_order x y) xs h.0, Ascends-entries xs h.1)

-- they are in order
pub Ascends-intersected : (terms without : List (List ℕ)) (list : List Cell) → Ascends above list → Ascends above (intersect_terms terms without list)
unfolding intersect_terms intersect Ascends
Ascends-intersected [] without list up = tt
Ascends-intersected (first ∷ others) without list up = Ascends-entries (filter_beside (leads_hit first others without list) [] list) (kept_rises first others without list [] list up)
