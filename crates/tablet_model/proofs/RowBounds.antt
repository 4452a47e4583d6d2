-- Entries that stand for rows and documents are within bounds, and no markers.
use Rattle.std.proofs.Common.{◌≡◌, ◌≤◌, ℕ, false, List, [], ◌∷◌, map, length, refl}
use Rattle.std.specs.Int.Signed.{le_z_yes}
use Rattle.std.specs.List.{AllByRecursion}
use Rattle.std.proofs.Math.Nat.{le_of_sub-eq-zero}
use Rattle.tablet_model.specs.Bounds.{IsEntry, AreEntries}
use Rattle.tablet_model.specs.Cell.{Cell}
use Rattle.tablet_model.specs.Kept.{filter_beside}
use Rattle.tablet_model.specs.Rows.{leads_row, leads_hit, row_entry, whole_row, intersect, intersect_terms, last_time}
use Rattle.tablet_model.specs.RowText.{row_text, whole_rows}
use Rattle.tablet_model.proofs.Combines.{NoMarkers}
use Rattle.tablet_model.proofs.Maps.{all_map}
use Rattle.tablet_model.proofs.Risings.{all_kept}

-- what a function makes of any entry
made_all : (Q : Cell → Type 0) (f : Cell → Cell) → ((y : Cell) → Q (f y)) → (ys : List Cell) → AllByRecursion Q (map f ys)
made_all Q f h [] = tt
made_all Q f h (y ∷ ys) = (h y, made_all Q f h ys)

empty : length {A = ℕ} [] ≤ 1024
empty = le_of_sub-eq-zero refl

pub whole_rows_bounded : (list : List Cell) → AreEntries list → AreEntries (whole_rows list)
unfolding whole_row row_entry
whole_rows_bounded list all =
    all_map IsEntry IsEntry (row_entry last_time row_text list) (λ e h. ((h.0.0, h.0.1, empty, empty, empty), (le_z_yes tt, le_z_yes tt))) (filter_beside leads_row [] list) (all_kept IsEntry leads_row [] list all)

pub intersected_bounded : (terms without : List (List ℕ)) (list : List Cell) → AreEntries list → AreEntries (intersect_terms terms without list)
unfolding intersect_terms intersect
intersected_bounded [] without list all = tt
intersected_bounded (first ∷ others) without list all =
    all_map IsEntry IsEntry _ (λ e h. ((h.0.0, h.0.1, empty, h.0.3, empty), (le_z_yes tt, le_z_yes tt))) (filter_beside (leads_hit first others without list) [] list) (all_kept IsEntry (leads_hit first others without list) [] list all)

pub whole_rows_plain : (list : List Cell) → NoMarkers (whole_rows list)
unfolding whole_row row_entry
whole_rows_plain list = made_all (λ e. e.key.deleted ≡ false) (row_entry last_time row_text list) (λ e. refl) (filter_beside leads_row [] list)

pub intersected_plain : (terms without : List (List ℕ)) (list : List Cell) → NoMarkers (intersect_terms terms without list)
unfolding intersect_terms intersect
intersected_plain [] without list = tt
intersected_plain (first ∷ others) without list = made_all (λ e. e.key.deleted ≡ false) _ (λ e. refl) (filter_beside (leads_hit first others without list) [] list)
