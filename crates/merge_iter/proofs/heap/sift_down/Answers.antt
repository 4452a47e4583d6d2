use Rattle.std.proofs.Common.{◌∙◌, length, sym, subst, arith}
use Rattle.std.proofs.lemmas.List.Sorted.{IsPermutation-trans}
use Rattle.core.proofs.slice.Heaps.{Hole, rests, sinks}
use Rattle.iter_contract.specs.Several.{has_later_top}
use Rattle.merge_iter.proofs.Shuffles.{all_shuffled}
use Rattle.merge_iter.proofs.TopOrder.{top_order}
use Rattle.merge_iter.proofs.heap.sift_down.Goals as goal

pub returns-then-not-is_later-clause-heap : goal.returns-then-not-is_later-clause-heap
returns-then-not-is_later-clause-heap g c =
    let rest = g.S.SortedSource.rest in
    let sources = c.loop-place.sources in
    let child = c.first_child-child in
    rests (has_later_top rest) (top_order rest) sources c.args.root c.loop-place.place child.result (length sources)
    (λ d. sym (c.is_later.ensures d) ∙ c.if-not-is_later.true) child.ensures.first c.loop-place.invariant.heap

pub loop-place-preserved : goal.loop-place-preserved
loop-place-preserved g c =
    let source = g.S.SortedSource in
    let behind = has_later_top source.rest in
    let sources = c.loop-place.sources in
    let child = c.first_child-child in
    let bound = child.ensures.bound in
    record {
      behind = omega (arith, bound.0, c.loop-place.invariant.behind);
      valid = all_shuffled source.valid sources c.swap.new.self c.swap.ensures.permutation c.loop-place.invariant.valid;
      permutation = IsPermutation-trans c.args.sources.now sources c.swap.new.self c.loop-place.invariant.permutation c.swap.ensures.permutation;
      heap = subst (Hole behind c.swap.new.self c.args.root child.result) (sym c.swap.ensures.len)
          (sinks behind (top_order source.rest) sources c.swap.new.self c.args.root c.loop-place.place child.result (length sources) c.loop-place.invariant.behind bound.0 bound.1 bound.2 (omega arith) c.swap.ensures.after
          (λ d. sym (c.is_later.ensures d) ∙ c.if-not-is_later.false) child.ensures.first c.loop-place.invariant.heap);
    }
