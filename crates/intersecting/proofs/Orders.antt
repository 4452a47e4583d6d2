-- The orders of places, and where documents lie in a sorted list.
use Rattle.std.proofs.Common.{◌≡◌, ◌&&◌, not, ℕ, Bool, true, false, cond, List, [], ◌∷◌, refl, sym, ap, ◌∙◌, arith, Equal, Less, Greater, Ordering}
use Rattle.std.specs.Cmp.{IsTotalOrder}
use Rattle.std.specs.List.{AllByRecursion, filter}
use Rattle.std.specs.Ordering.{is_eq, is_gt, is_ge, ordering_then}
use Rattle.std.proofs.lemmas.Cmp.{on_total, then_total, nat_list_cmp_total, tied_itself}
use Rattle.tablet_model.specs.Cell.{Cell, CellKey, column_of}
use Rattle.tablet_model.specs.Order.{above, bytes_cmp, column_cmp, time_cmp, key_cmp}
use Rattle.tablet_model.specs.Sorted.{Ascends, from_first}
use Rattle.tablet_model.specs.Bounds.{IsTime, AreEntries}
use Rattle.tablet_model.specs.Cuts.{Before, Everything, is_behind, holds, within}
use Rattle.tablet_model.specs.Rows.{same_bytes}
use Rattle.tablet_model.specs.Widened.{column_start}
use Rattle.tablet_model.proofs.Orders.{column_total, key_total, above_exact}
use Rattle.tablet_model.proofs.CutLemmas.{key_le, gt_up, ge_back}
use Rattle.tablet_model.proofs.Risings.{filter_in}
use Rattle.tablet_model.proofs.Seeks.{wide_before, filter_same, from_first_is}
use Rattle.tablet_model.proofs.Sums.{all_weaker, Ascends-filter}
use Rattle.tablet_model.proofs.Texts.{ge-of-gt}
use Rattle.intersecting.specs.Searches.{document_cmp, index_cmp, document_start, is_under, under}

pub document_total : IsTotalOrder document_cmp
unfolding document_cmp
document_total = then_total (on_total (λ k. k.row) nat_list_cmp_total) (on_total (λ k. k.qualifier) nat_list_cmp_total)

pub index_total : IsTotalOrder index_cmp
unfolding index_cmp
index_total = then_total (then_total (on_total (λ k. k.row) nat_list_cmp_total) (on_total (λ k. k.family) nat_list_cmp_total)) (on_total (λ k. k.qualifier) nat_list_cmp_total)

-- ---- places don't fall where keys don't

index_le : (a b : CellKey) → is_gt (key_cmp a b) ≡ false → is_gt (index_cmp a b) ≡ false
unfolding key_cmp column_cmp index_cmp
index_le a b h = first (ordering_then (ordering_then (bytes_cmp a.row b.row) (bytes_cmp a.family b.family)) (bytes_cmp a.qualifier b.qualifier)) _ _ h
  where
    first : (d v t : Ordering) → is_gt (ordering_then (ordering_then d v) t) ≡ false → is_gt d ≡ false
    first Less v t h = refl
    first Equal v t h = refl
    first Greater v t h = h

pub above_le : (a b : Cell) → above a b ≡ false → is_gt (index_cmp a.key b.key) ≡ false
above_le a b h = index_le a.key b.key (key_le a b h)

-- ---- a seek to the first key of a document

-- the rest of a key, behind its document, is not below that of the document's first key
rest_ge : (v : List ℕ) (e : CellKey) → IsTime e.time → is_ge (ordering_then (bytes_cmp v []) (time_cmp e (column_start e))) ≡ true
unfolding key_cmp
rest_ge (x ∷ xs) e t = refl
rest_ge [] e t =
    let same : is_ge (key_cmp e e) ≡ true = ap is_ge (tied_itself key_total e) in
    ap (λ o. is_ge (ordering_then o (time_cmp e (column_start e)))) (sym (tied_itself column_total (column_of e))) ∙ wide_before (Before e) e t same

-- which keys lie behind the first key of a document
at_index : (p : Cell) (term : List ℕ) (e : CellKey) → IsTime e.time → is_behind (Before (document_start p term)) e ≡ is_ge (index_cmp e (document_start p term))
unfolding key_cmp column_cmp index_cmp time_cmp
at_index p term e t = go (ordering_then (ordering_then (bytes_cmp e.row p.key.row) (bytes_cmp e.family term)) (bytes_cmp e.qualifier p.key.qualifier)) _ _ (rest_ge e.visibility e t)
  where
    go : (d v u : Ordering) → is_ge (ordering_then v u) ≡ true → is_ge (ordering_then (ordering_then d v) u) ≡ is_ge d
    go Less v u h = refl
    go Equal v u h = h
    go Greater v u h = refl

-- a seek to the first key of a document
pub sought : (p : Cell) (term : List ℕ) (list : List Cell) → AreEntries list → within (record { start = Before (document_start p term); end = Everything }) list ≡ under false p term list
unfolding under
sought p term list all =
    filter_same (λ y. holds (record { start = Before (document_start p term); end = Everything }) y.key) (λ y. is_ge (index_cmp y.key (document_start p term))) list (same list all)
  where
    and_true : (b : Bool) → (b && true) ≡ b
    and_true true = refl
    and_true false = refl

    same : (list : List Cell) → AreEntries list → AllByRecursion (λ y. holds (record { start = Before (document_start p term); end = Everything }) y.key ≡ is_ge (index_cmp y.key (document_start p term))) list
    same [] all = tt
    same (y ∷ ys) all = (and_true (is_behind (Before (document_start p term)) y.key) ∙ at_index p term y.key all.0.1, same ys all.1)

-- ---- steps over a document

under_is : (p y : Cell) (term : List ℕ) → is_under p term y ≡ is_eq (index_cmp (document_start p term) y.key)
unfolding index_cmp same_bytes
under_is p y term = three (bytes_cmp p.key.row y.key.row) (bytes_cmp term y.key.family) (bytes_cmp p.key.qualifier y.key.qualifier)
  where
    three : (r f q : Ordering) → (is_eq r && (is_eq f && is_eq q)) ≡ is_eq (ordering_then (ordering_then r f) q)
    three Less f q = refl
    three Equal Less q = refl
    three Equal Equal q = refl
    three Equal Greater q = refl
    three Greater f q = refl

from_same : (p q : Cell → Bool) (list : List Cell) → AllByRecursion (λ y. p y ≡ q y) list → from_first p list ≡ from_first q list
from_same p q [] h = refl
from_same p q (y ∷ ys) h = rw (h.0, from_same p q ys h.1) refl

filter_holds : (p : Cell → Bool) (list : List Cell) → AllByRecursion (λ y. p y ≡ true) (filter p list)
filter_holds p [] = tt
filter_holds p (y ∷ ys) = go (p y) refl (filter_holds p ys)
  where
    go : (b : Bool) → p y ≡ b → AllByRecursion (λ y. p y ≡ true) (filter p ys) → AllByRecursion (λ y. p y ≡ true) (cond b (y ∷ filter p ys) (filter p ys))
    go true h rest = (h, rest)
    go false h rest = rest

-- stepping over a document leaves what lies behind it
pub skipped : (p : Cell) (term : List ℕ) (list : List Cell) → Ascends above list → from_first (λ y. not (is_under p term y)) (under false p term list) ≡ under true p term list
unfolding under
skipped p term list rising =
    from_same (λ y. not (is_under p term y)) behind part (all_weaker (λ y. is_ge (index_cmp y.key s) ≡ true) (λ y. not (is_under p term y) ≡ behind y) agree part (filter_holds (λ y. is_ge (index_cmp y.key s)) list))
    ∙ from_first_is behind (λ a b low h. gt_up index_total s a.key b.key h (above_le a b low)) part (Ascends-filter above above_exact (λ y. is_ge (index_cmp y.key s)) list rising)
    ∙ filter_in behind (λ y. is_ge (index_cmp y.key s)) (λ y h. ge-of-gt (index_cmp y.key s) h) list
  where
    s : CellKey
    s = document_start p term

    behind : Cell → Bool
    behind y = is_gt (index_cmp y.key s)

    part : List Cell
    part = filter (λ y. is_ge (index_cmp y.key s)) list

    back : (a b : Ordering) → is_ge a ≡ not (is_gt b) → is_ge b ≡ not (is_gt a) → is_ge a ≡ true → not (is_eq b) ≡ is_gt a
    back a b h k m = grind arith

    agree : (y : Cell) → is_ge (index_cmp y.key s) ≡ true → not (is_under p term y) ≡ behind y
    agree y h = ap not (under_is p y term) ∙ back (index_cmp y.key s) (index_cmp s y.key) (ge_back index_total y.key s) (ge_back index_total s y.key) h
