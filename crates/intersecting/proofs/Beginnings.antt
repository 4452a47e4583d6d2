-- Where the documents of a range begin.
use Rattle.std.proofs.Common.{◌≡◌, not, ℕ, Bool, true, false, List, [], ◌∷◌, Some, None, refl, sym, ap, ◌∙◌, Less, Equal, Greater, Ordering}
use Rattle.std.specs.Ordering.{is_gt, is_ge, ordering_then}
use Rattle.tablet_model.specs.Cell.{Cell, CellKey, column_of}
use Rattle.tablet_model.specs.Order.{key_cmp, column_cmp, time_cmp, bytes_cmp}
use Rattle.tablet_model.specs.Cuts.{Cut, Everything, Before, Behind, BeforeRow, BehindRow, is_behind}
use Rattle.tablet_model.specs.Rows.{last_time}
use Rattle.intersecting.specs.Documents.{document_key}
use Rattle.intersecting.specs.Searches.{among, without_family, document_cmp, lies_from, place, reaches}
use Rattle.intersecting.proofs.Rounds.{tied_parts}

-- ---- a start under a family lies behind all documents of its row

-- how the key of a document's entry compares with another key
document_then : (d k : CellKey) → d ≡ document_key d → key_cmp d k ≡ key_cmp (document_key d) k
document_then d k h = ap (λ d. key_cmp d k) h

above_family : (k : CellKey) (o : Ordering → Bool) → o Less ≡ false → o Greater ≡ true → (f : List ℕ) → f ≡ k.family → without_family f k ≡ None → (d : CellKey) → is_gt (bytes_cmp d.row k.row) ≡ o (key_cmp (document_key d) k)
unfolding key_cmp column_cmp
above_family k o low high [] e h d = absurd cc
above_family k o low high (x ∷ xs) e h d =
    go (bytes_cmp d.row k.row) (bytes_cmp d.qualifier k.qualifier) (bytes_cmp [] k.visibility) (time_cmp (document_key d) k) ∙ ap (λ (f : List ℕ). o (ordering_then (ordering_then (ordering_then (ordering_then (bytes_cmp d.row k.row) (bytes_cmp [] f)) (bytes_cmp d.qualifier k.qualifier)) (bytes_cmp [] k.visibility)) (time_cmp (document_key d) k))) e
  where
    go : (r q v t : Ordering) → is_gt r ≡ o (ordering_then (ordering_then (ordering_then (ordering_then r Less) q) v) t)
    go Less q v t = sym low
    go Equal q v t = sym low
    go Greater q v t = sym high

pub behind_row : (k d : CellKey) → without_family k.family k ≡ None → d ≡ document_key d → is_behind (BehindRow k.row) d ≡ is_behind (Before k) d
behind_row k d h e = above_family k is_ge refl refl k.family refl h d ∙ sym (ap is_ge (document_then d k e))

pub past_row : (k d : CellKey) → without_family k.family k ≡ None → d ≡ document_key d → is_behind (BehindRow k.row) d ≡ is_behind (Behind k) d
past_row k d h e = above_family k is_gt refl refl k.family refl h d ∙ sym (ap is_gt (document_then d k e))

-- ---- a start among documents

decided : (c r f q v t : Ordering) → f ≡ Equal → ordering_then r q ≡ c → (c ≡ Equal → ⊥) → ordering_then (ordering_then (ordering_then (ordering_then r f) q) v) t ≡ c
decided c Less f q v t e h n = h
decided c Greater f q v t e h n = h
decided c Equal f Less v t e h n = ap (λ f. ordering_then (ordering_then (ordering_then f Less) v) t) e ∙ h
decided c Equal f Equal v t e h n = absurd (n (sym h))
decided c Equal f Greater v t e h n = ap (λ f. ordering_then (ordering_then (ordering_then f Greater) v) t) e ∙ h

by_document : (j k : CellKey) (c : Ordering) → bytes_cmp j.family k.family ≡ Equal → document_cmp j k ≡ c → (c ≡ Equal → ⊥) → key_cmp j k ≡ c
unfolding key_cmp column_cmp document_cmp
by_document j k c e h n = decided c (bytes_cmp j.row k.row) (bytes_cmp j.family k.family) (bytes_cmp j.qualifier k.qualifier) (bytes_cmp j.visibility k.visibility) (time_cmp j k) e h n

among_document : (cut : Cut) (k : CellKey) (o : Ordering → Bool) → ((d : CellKey) → is_behind cut d ≡ o (key_cmp d k)) → o Less ≡ false → o Greater ≡ true → k.family ≡ [] → (b : Bool) → b ≡ not (is_behind cut (document_key k))
    → (d : Cell) → d.key ≡ document_key d.key → is_behind cut d.key ≡ reaches b (document_cmp d.key k)
among_document cut k o is low high family b e d h = go (document_cmp d.key k) refl
  where
    families : bytes_cmp d.key.family k.family ≡ Equal
    families = ap (λ (f : List ℕ). bytes_cmp f k.family) (ap (λ k. k.family) h) ∙ ap (bytes_cmp []) family

    less : Less ≡ Equal → ⊥
    less m = cc

    greater : Greater ≡ Equal → ⊥
    greater m = cc

    turned : (b x : Bool) → b ≡ not x → x ≡ reaches b Equal
    turned true true m = m
    turned true false m = refl
    turned false true m = refl
    turned false false m = m

    reached : (b : Bool) → (reaches b Less ≡ false) × (reaches b Greater ≡ true)
    reached true = (refl, refl)
    reached false = (refl, refl)

    same_key : (d.key.row ≡ k.row) × (d.key.qualifier ≡ k.qualifier) → document_key d.key ≡ document_key k
    same_key parts = λ i. record { row = parts.0 i; family = []; qualifier = parts.1 i; visibility = []; time = last_time; deleted = false }

    go : (c : Ordering) → document_cmp d.key k ≡ c → is_behind cut d.key ≡ reaches b (document_cmp d.key k)
    go Less i = is d.key ∙ ap o (by_document d.key k Less families i less) ∙ low ∙ sym (reached b).0 ∙ ap (reaches b) (sym i)
    go Greater i = is d.key ∙ ap o (by_document d.key k Greater families i greater) ∙ high ∙ sym (reached b).1 ∙ ap (reaches b) (sym i)
    go Equal i =
        ap (is_behind cut) (h ∙ same_key (tied_parts d (record { key = k; value = [] }) i))
        ∙ turned b (is_behind cut (document_key k)) e ∙ ap (reaches b) (sym i)

family_of : (f : List ℕ) (k j : CellKey) → without_family f k ≡ Some j → (f ≡ []) × (k ≡ j)
family_of [] k j h = (refl, let e : k ≡ j = cc in e)
family_of (x ∷ xs) k j h = absurd cc

no_start : {j : CellKey} → None ≡ Some j → ⊥
no_start h = cc

-- a start among documents leaves those from its own on, or behind it
pub begins_among : (cut : Cut) (j : CellKey) → among cut ≡ Some j → (b : Bool) → b ≡ not (is_behind cut (document_key j)) → (d : Cell) → d.key ≡ document_key d.key → is_behind cut d.key ≡ lies_from b (place (Some (column_of j))) d
unfolding lies_from document_cmp
begins_among Everything j m b e d h = absurd (no_start m)
begins_among (BeforeRow r) j m b e d h = absurd (no_start m)
begins_among (BehindRow r) j m b e d h = absurd (no_start m)
begins_among (Before k) j m b e d h =
    let parts = family_of k.family k j m in
    among_document (Before k) k is_ge (λ d. refl) refl refl parts.0 b (e ∙ ap (λ j. not (is_behind (Before k) (document_key j))) (sym parts.1)) d h ∙ ap (λ k. reaches b (document_cmp d.key k)) parts.1
begins_among (Behind k) j m b e d h =
    let parts = family_of k.family k j m in
    among_document (Behind k) k is_gt (λ d. refl) refl refl parts.0 b (e ∙ ap (λ j. not (is_behind (Behind k) (document_key j))) (sym parts.1)) d h ∙ ap (λ k. reaches b (document_cmp d.key k)) parts.1
