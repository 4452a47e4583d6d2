-- Columns that are kept, listed, and sought from their start.
use Rattle.std.proofs.Common.{◌≡◌, true, false, Option, Some, None, refl, sym, ap, ◌∙◌, pos, Equal, Less, Greater, Ordering}
use Rattle.std.specs.Ordering.{is_ge, ordering_then, eq_by_cmp}
use Rattle.std.proofs.lemmas.Cmp.{tied_itself}
use Rattle.tablet_model.specs.Cell.{CellKey, Column, column_of}
use Rattle.tablet_model.specs.Order.{column_cmp, key_cmp, time_cmp}
use Rattle.tablet_model.specs.Columns.{is_column, with_time}
use Rattle.tablet_model.specs.Bounds.{IsTime}
use Rattle.tablet_model.specs.Cuts.{Cut, Everything, Before, Behind, BeforeRow, BehindRow, is_behind}
use Rattle.tablet_model.specs.Widened.{column_start, widened_cut}
use Rattle.tablet_model.proofs.Orders.{exact_columns, column_total, key_total}
use Rattle.tablet_model.proofs.Seeks.{wide_before}
use Rattle.tablet_model.proofs.Texts.{equal-of-is_eq}

-- columns that compare as equal are equal
pub equal_columns : (c d : Column) → eq_by_cmp column_cmp c d ≡ true → c ≡ d
equal_columns c d h = exact_columns c d (equal-of-is_eq (column_cmp c d) h)

-- the kept column is that of what it holds
pub kept_is : (c : Option Column) (d : Column) → is_column c d ≡ true → c ≡ Some d
kept_is None d h = let no : false ≡ true = h in cc
kept_is (Some c) d h = ap (λ c. Some c) (equal_columns c d h)

-- a key that is no marker's is made of its column and time
pub same_key : (k : CellKey) → k.deleted ≡ false → with_time (column_of k) k.time false ≡ k
same_key k d = ap (λ b. with_time (column_of k) k.time b) (sym d)

behind_start : (k e y : CellKey) → IsTime e.time → column_of y ≡ column_of e → is_ge (key_cmp y (column_start k)) ≡ true → is_ge (key_cmp e (column_start k)) ≡ true
unfolding key_cmp time_cmp
behind_start k e y t s h = go (column_cmp (column_of e) (column_of k)) (ap (λ c. is_ge (ordering_then (column_cmp c (column_of k)) (time_cmp y (column_start k)))) (sym s) ∙ h)
  where
    itself : is_ge (key_cmp e e) ≡ true
    itself = ap is_ge (tied_itself key_total e)

    in_column : is_ge (time_cmp e (column_start e)) ≡ true
    in_column = ap (λ o. is_ge (ordering_then o (time_cmp e (column_start e)))) (sym (tied_itself column_total (column_of e))) ∙ wide_before (Before e) e t itself

    go : (o : Ordering) → is_ge (ordering_then o (time_cmp y (column_start k))) ≡ true → is_ge (ordering_then o (time_cmp e (column_start k))) ≡ true
    go Less h = h
    go Greater h = refl
    go Equal h = in_column

-- a widened start lies before a whole column or behind it
pub whole_column : (c : Cut) (e y : CellKey) → IsTime e.time → column_of y ≡ column_of e → is_behind (widened_cut c) y ≡ true → is_behind (widened_cut c) e ≡ true
whole_column Everything e y t s h = refl
whole_column (Before k) e y t s h = behind_start k e y t s h
whole_column (Behind k) e y t s h = behind_start k e y t s h
whole_column (BeforeRow r) e y t s h = ap (λ c. is_behind (BeforeRow r) (with_time c (pos 0) false)) (sym s) ∙ h
whole_column (BehindRow r) e y t s h = ap (λ c. is_behind (BehindRow r) (with_time c (pos 0) false)) (sym s) ∙ h
