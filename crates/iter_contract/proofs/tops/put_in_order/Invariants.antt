use Rattle.std.proofs.Common.{◌≡◌, ◌≤◌, ◌++◌, length, take, drop}
use Rattle.tablet_model.specs.Sorted.{sorted}
use Rattle.iter_contract.specs.Several.{has_later_top}
use Rattle.iter_contract.proofs.tops.put_in_order.Given as goal

abbrev pub invariant-loop-place : goal.invariant-loop-place
invariant-loop-place g l = record {
  inside : l.place ≤ length l.fn.sources;
  order : l.sources ≡ take l.place l.fn.sources ++ sorted (has_later_top g.S.SortedSource.rest) (drop l.place l.fn.sources);
}

abbrev pub decreases-loop-place : goal.decreases-loop-place
decreases-loop-place g l = l.place
