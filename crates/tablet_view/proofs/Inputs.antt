-- What jobs over a snapshot's parts take in.
use Rattle.std.proofs.Common.{◌≡◌, ℕ, List, [], ◌∷◌, map, Some, unwrap_or, sym, ap, ◌∙◌, subst, append-nil}
use Rattle.std.proofs.lemmas.List.Folds.{flat_map-map}
use Rattle.tablet_model.specs.Cell.{Cell}
use Rattle.tablet_model.specs.Order.{above}
use Rattle.tablet_model.specs.Rules.{AreStorable, IsStorable}
use Rattle.tablet_model.specs.Sorted.{Ascends, sorted}
use Rattle.tablet_model.specs.Store.{File, cells_of, frozen_of, input_of, files_with}
use Rattle.tablet_model.specs.Sum.{sum_all}
use Rattle.tablet_model.proofs.Merges.{all_sorted}
use Rattle.tablet_model.proofs.Orders.{above_exact}
use Rattle.tablet_model.proofs.Sums.{sorted_same}
use Rattle.stage_laws.proofs.Jobs.{fewer}
use Rattle.stage_laws.proofs.Standing.{parts}
use Rattle.iter_config.specs.RulesOf.{rules_of}
use Rattle.tablet_view.specs.Snapshot.{IsStanding, Snapshot, store_of}

-- a job over the frozen part alone takes in its entries
pub frozen_input : (v : Snapshot) (cells : List Cell) → Some cells ≡ v.frozen → IsStanding v → sum_all (cells ∷ []) ≡ unwrap_or v.frozen []
unfolding sum_all store_of frozen_of
frozen_input v cells e h =
    ap (sorted above) (append-nil cells)
    ∙ sorted_same above above_exact cells (subst (λ o. Ascends above (unwrap_or o [])) (sym e) h.parts.frozen_sorted)
    ∙ ap (λ o. unwrap_or o []) e

-- which a store may have
pub frozen_storable : (v : Snapshot) (cells : List Cell) → Some cells ≡ v.frozen → IsStanding v → AreStorable (rules_of v.config) (sum_all (cells ∷ []))
unfolding store_of frozen_of
frozen_storable v cells e h = subst (AreStorable (rules_of v.config)) (sym (frozen_input v cells e h)) (parts (rules_of v.config) (store_of v 0 []) v.log h.parts).frozen

-- a job over the files of some numbers takes in their entries in order
pub files_input : (ids : List ℕ) (files : List File) → sum_all (map (λ f. f.cells) (files_with ids files)) ≡ input_of ids files
unfolding sum_all input_of cells_of
files_input ids files = ap (sorted above) (flat_map-map (λ l. l) (λ f. f.cells) (files_with ids files))

-- which a store may have
pub files_storable : (v : Snapshot) (ids : List ℕ) → IsStanding v → AreStorable (rules_of v.config) (input_of ids v.files)
unfolding store_of input_of
files_storable v ids h = all_sorted above above_exact (IsStorable (rules_of v.config)) (cells_of (files_with ids v.files)) (fewer (IsStorable (rules_of v.config)) ids v.files (parts (rules_of v.config) (store_of v 0 []) v.log h.parts).files)
