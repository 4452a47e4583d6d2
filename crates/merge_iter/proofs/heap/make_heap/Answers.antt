use Rattle.std.proofs.lemmas.List.Sorted.{IsPermutation-trans}
use Rattle.merge_iter.proofs.Shuffles.{all_shuffled}
use Rattle.merge_iter.proofs.heap.make_heap.Goals as goal

pub loop-place-preserved : goal.loop-place-preserved
loop-place-preserved g c =
    let sources = c.loop-place.sources in
    record {
      valid = all_shuffled g.S.SortedSource.valid sources c.sift_down.new.sources c.sift_down.ensures.permutation c.loop-place.invariant.valid;
      permutation = IsPermutation-trans c.args.sources.now sources c.sift_down.new.sources c.loop-place.invariant.permutation c.sift_down.ensures.permutation;
      heap = c.sift_down.ensures.heap;
    }
