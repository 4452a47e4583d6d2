-- What a source over a snapshot's parts has. All of this is this project's own.
use Rattle.std.specs.Prelude.{List, ⊤}
use Rattle.tablet_model.specs.Cell.{Cell}
use Rattle.tablet_model.specs.Order.{above}
use Rattle.tablet_model.specs.Sorted.{Ascends}
use Rattle.tablet_model.specs.Bounds.{AreEntries, IsEntry}
use Rattle.tablet_model.proofs.Orders.{above_exact}
use Rattle.tablet_model.proofs.Sums.{Ascends-filter, all_filter}
use Rattle.merge_iter.specs.MergeParts.{merge_bounded, merge_cells, merge_rest, merge_sorted, merge_valid}
use Rattle.compactor.specs.PartCells.{part_bounded, part_cells, part_rest}
use Rattle.stages.specs.StagedParts.{staged_cells, staged_rest, staged_valid}
use Rattle.stages.specs.TestedParts.{tested_made, tested_keeps, untouched}
use Rattle.tablet_view.specs.FamilyTests.{family_passes}
use Rattle.tablet_view.specs.declared.view_source.ViewSource.{ViewSource}

-- the entries of all parts in the families
unfoldable pub source_cells : ViewSource → List Cell
source_cells s = staged_cells (merge_cells part_cells) (tested_made family_passes) s.source

-- those of them that are left
unfoldable pub source_rest : ViewSource → List Cell
source_rest s = staged_rest (merge_rest part_rest) (tested_keeps family_passes) untouched s.source

-- its parts fit together
unfoldable pub source_valid : ViewSource → Type 0
source_valid s = staged_valid (merge_valid part_rest (λ _. ⊤)) s.source

-- its entries are in order
pub source_sorted : (s : ViewSource) → Ascends above (source_cells s)
unfolding source_cells
source_sorted s =
    Ascends-filter above above_exact (family_passes s.source.cursor.stage.test) (merge_cells part_cells s.source.source)
    (merge_sorted part_cells s.source.source)

-- they are within bounds
pub source_bounded : (s : ViewSource) → AreEntries (source_cells s)
unfolding source_cells
source_bounded s =
    all_filter IsEntry (family_passes s.source.cursor.stage.test) (merge_cells part_cells s.source.source)
    (merge_bounded part_cells part_bounded s.source.source)
