use Rattle.std.specs.List.{AllByRecursion}
use Rattle.std.specs.List.Sorted.{IsPermutation}
use Rattle.merge_iter.specs.Heaps.{IsHeapFrom}
use Rattle.merge_iter.proofs.heap.make_heap.Given as goal

abbrev pub invariant-loop-place : goal.invariant-loop-place
invariant-loop-place g l = record {
  valid : AllByRecursion g.S.SortedSource.valid l.sources;
  permutation : IsPermutation l.fn.sources l.sources;
  heap : IsHeapFrom g.S.SortedSource.rest l.place l.sources;
}

abbrev pub decreases-loop-place : goal.decreases-loop-place
decreases-loop-place g l = l.place
