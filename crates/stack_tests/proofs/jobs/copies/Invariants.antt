use Rattle.std.proofs.Common.{◌≡◌, map, take}
use Rattle.compactor.specs.PartCells.{part_cells}
use Rattle.stack_tests.proofs.jobs.copies.Given as goal

abbrev pub invariant-loop-part : goal.invariant-loop-part
invariant-loop-part l = map part_cells l.copies.items ≡ map part_cells (take l.part-index l.parts)
