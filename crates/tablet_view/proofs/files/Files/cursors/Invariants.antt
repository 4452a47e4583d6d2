use Rattle.std.proofs.Common.{◌≡◌, map, take}
use Rattle.std.specs.Arc.{arc_value}
use Rattle.compactor.specs.PartCells.{part_cells}
use Rattle.tablet_view.specs.declared.files.StoredFile.{StoredFile}
use Rattle.tablet_view.proofs.files.Files.cursors.Given as goal

abbrev pub invariant-loop-stored : goal.invariant-loop-stored
invariant-loop-stored l = map part_cells l.cursors.items ≡ map (λ (f : StoredFile). (arc_value f.file).cells) (take l.stored-index l.stored-items)
