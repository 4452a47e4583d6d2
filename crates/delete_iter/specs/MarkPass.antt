-- The pass over what is left gives what compactions keep.
use Rattle.std.proofs.Common.{◌≡◌, ◌||◌, ◌&&◌, not, Bool, true, false, cond, List, [], ◌∷◌, Option, Some, None, refl, sym, ap, ◌∙◌}
use Rattle.std.specs.Prelude.{⊤}
use Rattle.std.specs.List.{AllByRecursion, list_any}
use Rattle.std.specs.Ordering.{eq_by_cmp}
use Rattle.std.proofs.lemmas.Cmp.{eq_by_cmp_equiv}
use Rattle.tablet_model.specs.Cell.{Cell, Column, column_of}
use Rattle.tablet_model.specs.Order.{column_cmp, above, same_column}
use Rattle.tablet_model.specs.Columns.{is_column}
use Rattle.tablet_model.specs.Sorted.{Ascends, from_first}
use Rattle.tablet_model.specs.Bounds.{AreEntries}
use Rattle.tablet_model.specs.Cuts.{is_behind, within, Span}
use Rattle.tablet_model.specs.Widened.{widened_span}
use Rattle.tablet_model.specs.Kept.{filter_beside}
use Rattle.tablet_model.specs.Markers.{marker_beside, is_unmarked, mark}
use Rattle.tablet_model.proofs.Orders.{same_column_equiv, column_total}
use Rattle.tablet_model.proofs.Sums.{all_weaker}
use Rattle.tablet_model.proofs.Combines.{all_both}
use Rattle.tablet_model.proofs.Columns.{unmarked_looks}
use Rattle.tablet_model.proofs.Cursors.{column_between}
use Rattle.tablet_model.proofs.Seeks.{seek_kept}
use Rattle.stages.specs.Passes.{kept_from}
use Rattle.stages.proofs.Plain.{clash}
use Rattle.delete_iter.specs.MarkStages.{hidden_in, keeps, after_entry, without_hidden}
use Rattle.delete_iter.specs.declared.mark_stage.MarkStage.{MarkStage}

-- the pass, by the column that is hidden
abbrev hidden_past : Option Column → Cell → Option Column
hidden_past hidden e = cond e.key.deleted (Some (column_of e.key)) hidden

abbrev mark_from : Option Column → List Cell → List Cell
mark_from hidden [] = []
mark_from hidden (e ∷ es) = cond (is_column hidden (column_of e.key)) (mark_from hidden es) (e ∷ mark_from (hidden_past hidden e) es)

by_hidden : (s : MarkStage) (list : List Cell) → kept_from keeps after_entry s list ≡ mark_from (hidden_in s) list
by_hidden s [] = refl
by_hidden s (e ∷ es) = go (is_column (hidden_in s) (column_of e.key)) e.key.deleted (by_hidden s es) (by_hidden hiding es)
  where
    hiding : MarkStage
    hiding = record s { column = Some (column_of e.key); is_hiding = true }

    go : (b d : Bool) → kept_from keeps after_entry s es ≡ mark_from (hidden_in s) es → kept_from keeps after_entry hiding es ≡ mark_from (Some (column_of e.key)) es
        → cond (not b) (e ∷ kept_from keeps after_entry (cond (not b && d) hiding s) es) (kept_from keeps after_entry (cond (not b && d) hiding s) es)
        ≡ cond b (mark_from (hidden_in s) es) (e ∷ mark_from (cond d (Some (column_of e.key)) (hidden_in s)) es)
    go true d f g = f
    go false true f g = ap (λ l. e ∷ l) g
    go false false f g = ap (λ l. e ∷ l) f

-- ---- what a hidden column says of the markers before

-- entries of one column are hidden by the same
hidden_alike : (hidden : Option Column) (e y : Cell) → same_column y e ≡ true → is_column hidden (column_of y.key) ≡ is_column hidden (column_of e.key)
unfolding same_column
hidden_alike None e y s = refl
hidden_alike (Some d) e y s =
    (eq_by_cmp_equiv column_total).symm d (column_of y.key)
    ∙ (eq_by_cmp_equiv column_total).congr (column_of y.key) (column_of e.key) d s
    ∙ (eq_by_cmp_equiv column_total).symm (column_of e.key) d

-- the hidden column is that of a marker that isn't above what is left
abbrev Passed : Option Column → List Cell → Type 0
Passed None list = ⊤
Passed (Some d) list = (m : Cell) × (column_of m.key ≡ d) × AllByRecursion (λ e. above m e ≡ false) list

passed_tail : (hidden : Option Column) (e : Cell) (es : List Cell) → Passed hidden (e ∷ es) → Passed hidden es
passed_tail None e es p = tt
passed_tail (Some d) e es p = (p.0, p.1, p.2.1)

column_is : (m y : Cell) (d : Column) → column_of m.key ≡ d → is_column (Some d) (column_of y.key) ≡ same_column m y
unfolding same_column
column_is m y d h = ap (λ c. eq_by_cmp column_cmp c (column_of y.key)) (sym h)

-- behind an entry that isn't hidden, only its own column can be
only_own : (hidden : Option Column) (e y : Cell) (es : List Cell) → Passed hidden (e ∷ es) → above e y ≡ false → is_column hidden (column_of e.key) ≡ false → is_column hidden (column_of y.key) ≡ true → ⊥
only_own None e y es p up h k = clash false k refl
only_own (Some d) e y es p up h k = clash (same_column p.0 e) (column_between p.0 e y p.2.0 up (sym (column_is p.0 y d p.1) ∙ k)) (sym (column_is p.0 e d p.1) ∙ h)

-- the markers of the column of y, with one more entry before
one_more : (y e : Cell) (before : List Cell) → list_any (marker_beside y) (e ∷ before) ≡ ((e.key.deleted && same_column y e) || list_any (marker_beside y) before)
unfolding marker_beside
one_more y e before = refl

one_hidden : (hidden : Option Column) (e y : Cell) (before : List Cell) → is_column hidden (column_of e.key) ≡ true → list_any (marker_beside y) before ≡ is_column hidden (column_of y.key) → list_any (marker_beside y) (e ∷ before) ≡ is_column hidden (column_of y.key)
one_hidden hidden e y before h r = one_more y e before ∙ step e.key.deleted (same_column y e) (list_any (marker_beside y) before) (is_column hidden (column_of y.key)) r (λ s. hidden_alike hidden e y s ∙ h)
  where
    step : (d s a c : Bool) → a ≡ c → (s ≡ true → c ≡ true) → ((d && s) || a) ≡ c
    step true true a c k f = sym (f refl)
    step true false a c k f = k
    step false s a c k f = k

one_kept : (hidden : Option Column) (e y : Cell) (es before : List Cell) → Passed hidden (e ∷ es) → above e y ≡ false → is_column hidden (column_of e.key) ≡ false → list_any (marker_beside y) before ≡ is_column hidden (column_of y.key) → list_any (marker_beside y) (e ∷ before) ≡ is_column (hidden_past hidden e) (column_of y.key)
one_kept hidden e y es before p up h r = one_more y e before ∙ go e.key.deleted
  where
    alone : (s t a c : Bool) → s ≡ t → a ≡ c → (c ≡ true → ⊥) → (s || a) ≡ t
    alone s t a true k l n = absurd (n refl)
    alone s t a false k l n = last s t a k l
      where
        last : (s t a : Bool) → s ≡ t → a ≡ false → (s || a) ≡ t
        last true t a k l = k
        last false t a k l = l ∙ k

    go : (b : Bool) → ((b && same_column y e) || list_any (marker_beside y) before) ≡ is_column (cond b (Some (column_of e.key)) hidden) (column_of y.key)
    go true = alone (same_column y e) (is_column (Some (column_of e.key)) (column_of y.key)) (list_any (marker_beside y) before) (is_column hidden (column_of y.key)) (same_column_equiv.symm y e ∙ sym (column_is e y (column_of e.key) refl)) r (only_own hidden e y es p up h)
    go false = r

unmarked_is : (before : List Cell) (e : Cell) → is_unmarked before e ≡ not (list_any (marker_beside e) before)
unfolding is_unmarked
unmarked_is before e = refl

passed_next : (hidden : Option Column) (e : Cell) (es : List Cell) → Passed hidden (e ∷ es) → AllByRecursion (λ y. above e y ≡ false) es → Passed (hidden_past hidden e) es
passed_next hidden e es p low = go e.key.deleted
  where
    go : (b : Bool) → Passed (cond b (Some (column_of e.key)) hidden) es
    go true = (e, refl, low)
    go false = passed_tail hidden e es p

-- the hidden column says of each entry that is left whether a marker of its column stands before
abbrev Knows : Option Column → List Cell → List Cell → Type 0
Knows hidden before list = AllByRecursion (λ y. list_any (marker_beside y) before ≡ is_column hidden (column_of y.key)) list

knows_hidden : (hidden : Option Column) (e : Cell) (before es : List Cell) → is_column hidden (column_of e.key) ≡ true → Knows hidden before es → Knows hidden (e ∷ before) es
knows_hidden hidden e before es h k = all_weaker (λ y. list_any (marker_beside y) before ≡ is_column hidden (column_of y.key)) (λ y. list_any (marker_beside y) (e ∷ before) ≡ is_column hidden (column_of y.key)) (λ y r. one_hidden hidden e y before h r) es k

knows_kept : (hidden : Option Column) (e : Cell) (before es : List Cell) → Passed hidden (e ∷ es) → AllByRecursion (λ y. above e y ≡ false) es → is_column hidden (column_of e.key) ≡ false → Knows hidden before es → Knows (hidden_past hidden e) (e ∷ before) es
knows_kept hidden e before es p low h k = all_both (λ y. above e y ≡ false) (λ y. list_any (marker_beside y) before ≡ is_column hidden (column_of y.key)) (λ y. list_any (marker_beside y) (e ∷ before) ≡ is_column (hidden_past hidden e) (column_of y.key)) (λ y up r. one_kept hidden e y es before p up h r) es low k

-- the pass gives the definition
pass_is : (hidden : Option Column) (before list : List Cell) → Ascends above list → Passed hidden list → Knows hidden before list → filter_beside is_unmarked before list ≡ mark_from hidden list
unfolding filter_beside Ascends
pass_is hidden before [] up p k = refl
pass_is hidden before (e ∷ es) up p k = go (is_column hidden (column_of e.key)) refl (λ q s. pass_is hidden (e ∷ before) es up.1 q s) (λ q s. pass_is (hidden_past hidden e) (e ∷ before) es up.1 q s)
  where
    by_test : (t b : Bool) (xs ys zs : List Cell) → t ≡ not b → (b ≡ true → xs ≡ ys) → (b ≡ false → xs ≡ zs) → cond t (e ∷ xs) xs ≡ cond b ys (e ∷ zs)
    by_test t true xs ys zs h f g = ap (λ c. cond c (e ∷ xs) xs) h ∙ f refl
    by_test t false xs ys zs h f g = ap (λ c. cond c (e ∷ xs) xs) h ∙ ap (λ l. e ∷ l) (g refl)

    go : (b : Bool) → is_column hidden (column_of e.key) ≡ b → (Passed hidden es → Knows hidden (e ∷ before) es → filter_beside is_unmarked (e ∷ before) es ≡ mark_from hidden es) → (Passed (hidden_past hidden e) es → Knows (hidden_past hidden e) (e ∷ before) es → filter_beside is_unmarked (e ∷ before) es ≡ mark_from (hidden_past hidden e) es)
        → cond (is_unmarked before e) (e ∷ filter_beside is_unmarked (e ∷ before) es) (filter_beside is_unmarked (e ∷ before) es) ≡ cond b (mark_from hidden es) (e ∷ mark_from (hidden_past hidden e) es)
    go b h f g = by_test (is_unmarked before e) b (filter_beside is_unmarked (e ∷ before) es) (mark_from hidden es) (mark_from (hidden_past hidden e) es) (unmarked_is before e ∙ ap not (k.0 ∙ h))
        (λ t. f (passed_tail hidden e es p) (knows_hidden hidden e before es (h ∙ t) k.1))
        (λ t. g (passed_next hidden e es p up.0) (knows_kept hidden e before es p up.0 (h ∙ t) k.1))

nothing_before : (list : List Cell) → Knows None [] list
nothing_before [] = tt
nothing_before (y ∷ ys) = (refl, nothing_before ys)

-- the pass over a list in order
pub mark_pass : (s : MarkStage) (list : List Cell) → Ascends above list → kept_from keeps after_entry (without_hidden s) list ≡ mark list
unfolding mark
mark_pass s list up = by_hidden (without_hidden s) list ∙ sym (pass_is None [] list up tt (nothing_before list))

-- the range from the start's column on, from the start on
pub mark_narrows : (s : Span) (list : List Cell) → Ascends above list → AreEntries list → from_first (λ e. is_behind s.start e.key) (mark (within (widened_span s) list)) ≡ within s (mark list)
unfolding mark
mark_narrows s list up en = seek_kept is_unmarked unmarked_looks s list up en
