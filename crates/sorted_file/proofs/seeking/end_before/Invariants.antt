use Rattle.std.proofs.Common.{◌≤◌, ◌-◌, length}
use Rattle.tablet_model.specs.Cuts.{is_before}
use Rattle.cell_key.specs.Ranges.{cut_of}
use Rattle.sorted_file.specs.Outlines.{IsSpot}
use Rattle.sorted_file.proofs.Walks.{UpTo}
use Rattle.sorted_file.proofs.seeking.end_before.Given as goal

abbrev pub invariant-loop-spot : goal.invariant-loop-spot
invariant-loop-spot l = record {
  order : l.fn.from.index ≤ l.spot.index;
  within : l.spot.index ≤ length l.file.cells;
  spot : IsSpot l.file l.spot;
  before : UpTo (λ e. is_before (cut_of l.end) e.key) l.file.cells l.fn.from.index l.spot.index;
}

abbrev pub decreases-loop-spot : goal.decreases-loop-spot
decreases-loop-spot l = length l.file.cells - l.spot.index
