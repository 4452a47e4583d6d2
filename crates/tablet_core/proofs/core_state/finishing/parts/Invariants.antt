use Rattle.std.proofs.Common.{◌≡◌, map, take}
use Rattle.tablet_model.specs.Store.{files_with}
use Rattle.compactor.specs.PartCells.{part_cells}
use Rattle.tablet_core.proofs.core_state.finishing.parts.Given as goal

abbrev pub invariant-loop-i : goal.invariant-loop-i
invariant-loop-i l = map part_cells l.parts.items ≡ map (λ file. file.cells) (files_with l.files (take l.i l.view.files))
