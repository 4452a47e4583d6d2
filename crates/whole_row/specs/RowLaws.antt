-- The entries of whole rows are in order. This is this project's own.
use Rattle.std.proofs.Common.{◌≡◌, ℕ, Bool, true, false, List, [], ◌∷◌, map, refl, sym, ap, ◌∙◌, Equal, Less, Greater, Ordering}
use Rattle.std.specs.List.{filter}
use Rattle.std.specs.Ordering.{is_gt, ordering_then}
use Rattle.std.proofs.lemmas.Map.Lookups.{exact_bytes}
use Rattle.tablet_model.specs.Cell.{Cell}
use Rattle.tablet_model.specs.Order.{above, cell_cmp, key_cmp, column_cmp, bytes_cmp}
use Rattle.tablet_model.specs.Sorted.{Ascends}
use Rattle.tablet_model.specs.Kept.{filter_beside}
use Rattle.tablet_model.specs.Rows.{same_bytes, same_row, leads_row, row_entry, whole_row, last_time}
use Rattle.tablet_model.proofs.Orders.{above_exact}
use Rattle.tablet_model.proofs.CutLemmas.{key_le, row_le}
use Rattle.tablet_model.proofs.Maps.{all_map}
use Rattle.tablet_model.proofs.Risings.{Ascends-kept}
use Rattle.tablet_model.specs.RowText.{row_text, whole_rows}

-- what is made of entries in order is in order, where it keeps the order of any two
Ascends-map : (f : Cell → Cell) → ((x y : Cell) → above x y ≡ false → above (f x) (f y) ≡ false) → (xs : List Cell) → Ascends above xs → Ascends above (map f xs)
unfolding Ascends
Ascends-map f h [] a = tt
Ascends-map f h (x ∷ xs) a = (all_map (λ y. above x y ≡ false) (λ y. above (f x) y ≡ false) f (λ y. h x y) xs a.0, Ascends-map f h xs a.1)

-- no entry is above itself
not_above : (x : Cell) → above x x ≡ false
not_above x = go (above x x) refl
  where
    go : (b : Bool) → above x x ≡ b → b ≡ false
    go false h = refl
    go true h = sym h ∙ above_exact.either x x h

-- the entries that stand for two rows are in the order of the rows
row_entry_order : (list : List Cell) (x y : Cell) → above x y ≡ false → above (row_entry last_time row_text list x) (row_entry last_time row_text list y) ≡ false
unfolding row_entry same_row above cell_cmp key_cmp column_cmp
row_entry_order list x y h = go (bytes_cmp x.key.row y.key.row) refl (row_le x.key y.key (key_le x y h))
  where
    of_row : List ℕ → Cell
    of_row row = record {
      key = record { row = row; family = []; qualifier = []; visibility = []; time = last_time; deleted = false };
      value = row_text (filter (λ e. same_bytes row e.key.row) list);
    }

    then_rows : (o f q v t w : Ordering) (b : Bool) → is_gt (ordering_then (ordering_then (ordering_then (ordering_then (ordering_then o f) q) v) t) w) ≡ b → (p : Ordering) → p ≡ o → is_gt (ordering_then (ordering_then (ordering_then (ordering_then (ordering_then p f) q) v) t) w) ≡ b
    then_rows o f q v t w b h p e = ap (λ p. is_gt (ordering_then (ordering_then (ordering_then (ordering_then (ordering_then p f) q) v) t) w)) e ∙ h

    go : (o : Ordering) → bytes_cmp x.key.row y.key.row ≡ o → is_gt (bytes_cmp x.key.row y.key.row) ≡ false → above (of_row x.key.row) (of_row y.key.row) ≡ false
    go Less e k = then_rows Less _ _ _ _ _ false refl _ e
    go Equal e k = ap (λ row. above (of_row x.key.row) (of_row row)) (sym (exact_bytes x.key.row y.key.row e)) ∙ not_above (of_row x.key.row)
    go Greater e k = then_rows Greater _ _ _ _ _ true refl _ e ∙ (sym (ap is_gt e) ∙ k)

-- whole rows are in order
pub Ascends-whole_rows : (list : List Cell) → Ascends above list → Ascends above (whole_rows list)
unfolding whole_row
Ascends-whole_rows list up = Ascends-map (row_entry last_time row_text list) (row_entry_order list) (filter_beside leads_row [] list) (Ascends-kept leads_row [] list up)
