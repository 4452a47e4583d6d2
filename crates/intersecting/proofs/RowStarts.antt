-- The first row behind a cut at the border of a row.
use Rattle.std.proofs.Common.{◌≡◌, ◌&&◌, not, ℕ, Bool, true, false, List, [], ◌∷◌, Some, None, refl, sym, ap, ◌∙◌, Less, Equal, Greater, Ordering}
use Rattle.std.specs.List.{AllByRecursion, filter}
use Rattle.std.specs.Ordering.{is_gt, is_ge, ordering_then}
use Rattle.std.proofs.lemmas.Cmp.{nat_list_cmp_total}
use Rattle.tablet_model.specs.Cell.{Cell, CellKey}
use Rattle.tablet_model.specs.Order.{above, bytes_cmp}
use Rattle.tablet_model.specs.Sorted.{Ascends, first}
use Rattle.tablet_model.specs.Cuts.{Cut, Everything, Before, Behind, BeforeRow, BehindRow, is_behind, holds, within}
use Rattle.tablet_model.specs.Rows.{same_bytes, has_term}
use Rattle.tablet_model.proofs.CutLemmas.{ge_back, ge_up, gt_up}
use Rattle.tablet_model.proofs.Bools.{both-of-and, false-of-not}
use Rattle.tablet_model.proofs.Texts.{equal_texts, same_texts}
use Rattle.intersecting.specs.Searches.{document_cmp, index_cmp, is_under, lies_from, is_at_row, IsRowStart}
use Rattle.intersecting.proofs.Firsts.{no, has_witness, first_least, none_pass}

-- whatever lies in a later row is behind such a cut too
upward : (cut : Cut) → is_at_row cut ≡ true → (a b : CellKey) → is_gt (bytes_cmp a.row b.row) ≡ false → is_behind cut a ≡ true → is_behind cut b ≡ true
upward Everything m a b l h = refl
upward (Before k) m a b l h = no m
upward (Behind k) m a b l h = no m
upward (BeforeRow r) m a b l h = ge_up nat_list_cmp_total r a.row b.row h l
upward (BehindRow r) m a b l h = gt_up nat_list_cmp_total r a.row b.row h l

-- such a cut looks at rows
by_row : (cut : Cut) → is_at_row cut ≡ true → (a b : CellKey) → a.row ≡ b.row → is_behind cut a ≡ is_behind cut b
by_row Everything m a b h = refl
by_row (Before k) m a b h = no m
by_row (Behind k) m a b h = no m
by_row (BeforeRow r) m a b h = ap (λ row. is_ge (bytes_cmp row r)) h
by_row (BehindRow r) m a b h = ap (λ row. is_gt (bytes_cmp row r)) h

index_row : (a b : CellKey) → is_gt (index_cmp a b) ≡ false → is_gt (bytes_cmp a.row b.row) ≡ false
unfolding index_cmp
index_row a b h = go (bytes_cmp a.row b.row) (bytes_cmp a.family b.family) (bytes_cmp a.qualifier b.qualifier) h
  where
    go : (r f q : Ordering) → is_gt (ordering_then (ordering_then r f) q) ≡ false → is_gt r ≡ false
    go Less f q h = refl
    go Equal f q h = refl
    go Greater f q h = h

and_true : (b : Bool) → (b && true) ≡ b
and_true true = refl
and_true false = refl

under_row : (d y : Cell) (term : List ℕ) → is_under d term y ≡ true → d.key.row ≡ y.key.row
under_row d y term h = equal_texts d.key.row y.key.row (both-of-and (same_bytes d.key.row y.key.row) (same_bytes term y.key.family && same_bytes d.key.qualifier y.key.qualifier) h).0

module _ (list : List Cell) (rising : Ascends above list) (cut : Cut) (border : is_at_row cut ≡ true) where
  abbrev passes : Cell → Bool
  passes y = holds (record { start = cut; end = Everything }) y.key

  nothing_behind : filter passes list ≡ [] → (d : Cell) (term : List ℕ) → has_term list d term ≡ true → is_behind cut d.key ≡ false
  nothing_behind h d term has = has_witness list d term (is_behind cut d.key ≡ false) has (each list (none_pass passes list h))
    where
      each : (ys : List Cell) → AllByRecursion (λ y. passes y ≡ false) ys → AllByRecursion (λ y. is_under d term y ≡ true → is_behind cut d.key ≡ false) ys
      each [] a = tt
      each (y ∷ ys) a = ((λ u. by_row cut border d.key y.key (under_row d y term u) ∙ sym (and_true (is_behind cut y.key)) ∙ a.0), each ys a.1)

  -- where no row is behind it
  pub no_row : (n : Cell) (rest : List Cell) → rest ≡ within (record { start = cut; end = Everything }) list → first rest ≡ None → IsRowStart list cut n false
  no_row n rest r f = record {
    some = λ h. no h;
    behind = λ h. no h;
    left = λ d term has. nothing_behind (sym r ∙ empty rest f) d term has;
  }
    where
      empty : (rest : List Cell) → first rest ≡ None → rest ≡ []
      empty [] h = refl
      empty (x ∷ xs) h = absurd cc

  -- where one is
  module _ (e : Cell) (es : List Cell) (found : filter passes list ≡ e ∷ es) (n : Cell) (row : n.key.row ≡ e.key.row) (begins : n.key.qualifier ≡ []) where
    own : is_behind cut e.key ≡ true
    own = sym (and_true (is_behind cut e.key)) ∙ (first_least passes list e es rising found).1

    -- from the beginning of a row on, the rows decide
    rows_decide : (d : Cell) → lies_from false n d ≡ is_ge (bytes_cmp d.key.row e.key.row)
    unfolding lies_from document_cmp
    rows_decide d =
        ap (λ row. is_ge (ordering_then (bytes_cmp d.key.row row) (bytes_cmp d.key.qualifier n.key.qualifier))) row
        ∙ ap (λ q. is_ge (ordering_then (bytes_cmp d.key.row e.key.row) (bytes_cmp d.key.qualifier q))) begins
        ∙ go (bytes_cmp d.key.row e.key.row) d.key.qualifier
      where
        go : (r : Ordering) (q : List ℕ) → is_ge (ordering_then r (bytes_cmp q [])) ≡ is_ge r
        go Less q = refl
        go Equal [] = refl
        go Equal (x ∷ xs) = refl
        go Greater q = refl

    turned : (a b : List ℕ) → is_gt (bytes_cmp a b) ≡ false → is_ge (bytes_cmp b a) ≡ true
    turned a b h = ge_back nat_list_cmp_total b a ∙ ap not h

    back : (a b : List ℕ) → is_ge (bytes_cmp b a) ≡ true → is_gt (bytes_cmp a b) ≡ false
    back a b h = false-of-not (is_gt (bytes_cmp a b)) (sym (ge_back nat_list_cmp_total b a) ∙ h)

    rows_from : (d : Cell) (term : List ℕ) → has_term list d term ≡ true → is_behind cut d.key ≡ is_ge (bytes_cmp d.key.row e.key.row)
    rows_from d term has = has_witness list d term (is_behind cut d.key ≡ is_ge (bytes_cmp d.key.row e.key.row)) has (each list (first_least passes list e es rising found).0)
      where
        equal : (y : Cell) → (passes y ≡ true → is_gt (index_cmp e.key y.key) ≡ false) → is_under d term y ≡ true → (a b : Bool) → is_behind cut d.key ≡ a → is_ge (bytes_cmp d.key.row e.key.row) ≡ b → a ≡ b
        equal y low u true b h k =
            let same : d.key.row ≡ y.key.row = under_row d y term u in
            sym (ap (λ row. is_ge (bytes_cmp row e.key.row)) same ∙ turned e.key.row y.key.row (index_row e.key y.key (low (and_true (is_behind cut y.key) ∙ by_row cut border y.key d.key (sym same) ∙ h)))) ∙ k
        equal y low u false true h k = sym h ∙ upward cut border e.key d.key (back e.key.row d.key.row k) own
        equal y low u false false h k = refl

        each : (ys : List Cell) → AllByRecursion (λ y. passes y ≡ true → is_gt (index_cmp e.key y.key) ≡ false) ys → AllByRecursion (λ y. is_under d term y ≡ true → is_behind cut d.key ≡ is_ge (bytes_cmp d.key.row e.key.row)) ys
        each [] a = tt
        each (y ∷ ys) a = ((λ u. equal y a.0 u (is_behind cut d.key) (is_ge (bytes_cmp d.key.row e.key.row)) refl refl), each ys a.1)

    row_found : IsRowStart list cut n true
    row_found = record {
      some = λ h. (first_least passes list e es rising found).2 (λ y. same_bytes n.key.row y.key.row) (same_texts n.key.row e.key.row row);
      behind = λ h. by_row cut border n.key e.key row ∙ own;
      left = λ d term has. rows_from d term has ∙ sym (rows_decide d);
    }

  pub row_start : (n e : Cell) (rest : List Cell) → rest ≡ within (record { start = cut; end = Everything }) list → first rest ≡ Some e → n.key.row ≡ e.key.row → n.key.qualifier ≡ [] → IsRowStart list cut n true
  row_start n e [] r f row begins = absurd cc
  row_start n e (x ∷ xs) r f row begins = row_found e xs (sym r ∙ ap (λ x. x ∷ xs) (heads x f)) n row begins
    where
      heads : (x : Cell) → Some x ≡ Some e → x ≡ e
      heads x h = cc
