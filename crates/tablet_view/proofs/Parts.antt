-- Cursors over the parts of a snapshot.
use Rattle.std.proofs.Common.{◌≡◌, true, List, [], ◌∷◌, ◌++◌, map, Option, Some, None, unwrap_or, refl, ap, ◌∙◌, append-nil}
use Rattle.std.specs.List.{flat_map}
use Rattle.std.proofs.lemmas.Grind.{flat_map-append}
use Rattle.std.proofs.lemmas.List.Folds.{flat_map-map}
use Rattle.tablet_model.specs.Cell.{Cell}
use Rattle.tablet_model.specs.Order.{above}
use Rattle.tablet_model.specs.Sorted.{sorted}
use Rattle.tablet_model.specs.Store.{all_of, cells_of, frozen_of, parts_of}
use Rattle.tablet_model.specs.Sum.{sum_all}
use Rattle.iter_contract.specs.Several.{all_steady}
use Rattle.compactor.specs.declared.part_cursor.PartCursor.{PartCursor}
use Rattle.tablet_view.specs.Snapshot.{Snapshot, entries_in, store_of}

pub always_steady : (parts : List PartCursor) → all_steady (λ _. true) parts ≡ true
always_steady [] = refl
always_steady (part ∷ parts) = always_steady parts

-- a list of the frozen part, if there is one
abbrev pub frozen_list : Option (List Cell) → List (List Cell)
frozen_list None = []
frozen_list (Some cells) = cells ∷ []

joined_frozen : (frozen : Option (List Cell)) (memory : List Cell) → flat_map (λ l. l) (frozen_list frozen ++ memory ∷ []) ≡ unwrap_or frozen [] ++ memory
joined_frozen None memory = append-nil memory
joined_frozen (Some cells) memory = ap (λ l. cells ++ l) (append-nil memory)

-- the union of all parts has all entries
pub all_parts : (v : Snapshot) (lists : List (List Cell)) → lists ≡ map (λ f. f.cells) v.files ++ (frozen_list v.frozen ++ v.memory ∷ []) → sum_all lists ≡ entries_in v
unfolding sum_all store_of all_of parts_of cells_of frozen_of
all_parts v lists e = ap (sorted above) (
    ap (flat_map (λ l. l)) e
    ∙ flat_map-append (λ l. l) (map (λ f. f.cells) v.files) (frozen_list v.frozen ++ v.memory ∷ [])
    ∙ (λ i. flat_map-map (λ l. l) (λ f. f.cells) v.files i ++ joined_frozen v.frozen v.memory i))
