use Rattle.std.proofs.Common.{◌≡◌, ◌≤◌, ◌-◌, length, filter, drop}
use Rattle.tablet_model.specs.Cuts.{is_behind}
use Rattle.cell_key.specs.Ranges.{cut_of}
use Rattle.sorted_file.specs.Outlines.{IsSpot}
use Rattle.sorted_file.proofs.seeking.first_behind.Given as goal

abbrev pub invariant-loop-spot : goal.invariant-loop-spot
invariant-loop-spot l = record {
  within : l.spot.index ≤ length l.file.cells;
  spot : IsSpot l.file l.spot;
  behind : filter (λ e. is_behind (cut_of l.start) e.key) (drop l.spot.index l.file.cells) ≡ filter (λ e. is_behind (cut_of l.start) e.key) l.file.cells;
}

abbrev pub decreases-loop-spot : goal.decreases-loop-spot
decreases-loop-spot l = length l.file.cells - l.spot.index
