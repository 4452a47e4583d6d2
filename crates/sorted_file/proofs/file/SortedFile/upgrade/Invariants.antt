use Rattle.std.proofs.Common.{◌≡◌, ◌≤◌, ◌-◌, length, take}
use Rattle.sorted_file.specs.Outlines.{IsSpot}
use Rattle.sorted_file.proofs.file.SortedFile.upgrade.Given as goal

abbrev pub invariant-loop-spot : goal.invariant-loop-spot
invariant-loop-spot l = record {
  within : l.spot.index ≤ length l.self.cells;
  spot : IsSpot l.self l.spot;
  built : l.builder ≡ take l.spot.index l.self.cells;
}

abbrev pub decreases-loop-spot : goal.decreases-loop-spot
decreases-loop-spot l = length l.self.cells - l.spot.index
