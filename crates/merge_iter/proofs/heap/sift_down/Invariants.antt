use Rattle.std.proofs.Common.{◌-◌, ◌≤◌, length}
use Rattle.std.specs.List.{AllByRecursion}
use Rattle.std.specs.List.Sorted.{IsPermutation}
use Rattle.core.proofs.slice.Heaps.{Hole}
use Rattle.iter_contract.specs.Several.{has_later_top}
use Rattle.merge_iter.proofs.heap.sift_down.Given as goal

abbrev pub invariant-loop-place : goal.invariant-loop-place
invariant-loop-place g l = record {
  behind : l.fn.root ≤ l.place;
  valid : AllByRecursion g.S.SortedSource.valid l.sources;
  permutation : IsPermutation l.fn.sources l.sources;
  heap : Hole (has_later_top g.S.SortedSource.rest) l.sources l.fn.root l.place (length l.sources);
}

abbrev pub decreases-loop-place : goal.decreases-loop-place
decreases-loop-place g l = length l.sources - l.place
