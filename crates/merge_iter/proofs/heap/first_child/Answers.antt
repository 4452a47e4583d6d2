use Rattle.std.proofs.Common.{◌+◌, ◌*◌, ◌∙◌, length, refl, sym, arith}
use Rattle.core.proofs.slice.Heaps.{left_child, only_child, right_child}
use Rattle.iter_contract.specs.Several.{has_later_top}
use Rattle.merge_iter.proofs.TopOrder.{top_order}
use Rattle.merge_iter.proofs.heap.first_child.Goals as goal

pub returns-then-left-sources-clause-first : goal.returns-then-left-sources-clause-first
returns-then-left-sources-clause-first g c =
    let rest = g.S.SortedSource.rest in
    only_child (has_later_top rest) (top_order rest) c.args.sources.now c.args.parent (c.args.parent * 2 + 1) (length c.args.sources.now) refl (omega arith)

pub returns-then-is_later-clause-first : goal.returns-then-is_later-clause-first
returns-then-is_later-clause-first g c =
    let rest = g.S.SortedSource.rest in
    right_child (has_later_top rest) (top_order rest) c.args.sources.now c.args.parent (c.args.parent * 2 + 1) (length c.args.sources.now) refl
    (λ d. sym (c.is_later.ensures d) ∙ c.if-is_later.true)

pub returns-else-is_later-clause-first : goal.returns-else-is_later-clause-first
returns-else-is_later-clause-first g c =
    let rest = g.S.SortedSource.rest in
    left_child (has_later_top rest) (top_order rest) c.args.sources.now c.args.parent (c.args.parent * 2 + 1) (length c.args.sources.now) refl
    (λ d. sym (c.is_later.ensures d) ∙ c.if-is_later.false)
