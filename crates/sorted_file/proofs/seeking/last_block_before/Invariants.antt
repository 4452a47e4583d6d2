use Rattle.std.proofs.Common.{◌≡◌, ◌≤◌, ◌-◌, false, length, take}
use Rattle.std.specs.List.{AllByRecursion}
use Rattle.tablet_model.specs.Cuts.{is_behind}
use Rattle.cell_key.specs.Ranges.{cut_of}
use Rattle.sorted_file.specs.Image.{block_places}
use Rattle.sorted_file.specs.Outlines.{IsSpot}
use Rattle.sorted_file.proofs.seeking.last_block_before.Given as goal

abbrev pub invariant-loop-low : goal.invariant-loop-low
invariant-loop-low l = record {
  few : l.high ≤ length (block_places l.file.version l.file.cells);
  within : l.last.index ≤ length l.file.cells;
  spot : IsSpot l.file l.last;
  passed : AllByRecursion (λ e. is_behind (cut_of l.bound) e.key ≡ false) (take l.last.index l.file.cells);
}

abbrev pub decreases-loop-low : goal.decreases-loop-low
decreases-loop-low l = l.high - l.low
