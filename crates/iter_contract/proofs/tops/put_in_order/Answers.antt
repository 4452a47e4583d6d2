use Rattle.std.proofs.Common.{◌≡◌, ◌<◌, ◌++◌, ◌∙◌, ◌-◌, zero, ap, sym, subst, length, take, drop, arith}
use Rattle.std.proofs.lemmas.List.{take_rest}
use Rattle.std.specs.List.{AllByRecursion}
use Rattle.tablet_model.proofs.Merges.{all_append, all_take}
use Rattle.tablet_model.specs.Sorted.{sorted}
use Rattle.iter_contract.specs.Several.{has_later_top}
use Rattle.iter_contract.proofs.Elements.{all_dropped}
use Rattle.iter_contract.proofs.Moves.{placed, sorted_all, unsorted}
use Rattle.iter_contract.proofs.tops.put_in_order.Goals as goal

pub loop-place-init : goal.loop-place-init
loop-place-init g c = record {
  inside = omega arith;
  order = unsorted (has_later_top g.S.SortedSource.rest) c.args.sources.now;
}

pub settle-requires : goal.settle-requires
settle-requires g c =
    let source = g.S.SortedSource in
    let ss = c.args.sources.now in
    let place = c.loop-place.place in
    subst (AllByRecursion source.valid) (sym (take_rest c.loop-place.sources (place - 1)))
    (all_dropped source.valid c.loop-place.sources (place - 1)
    (subst (AllByRecursion source.valid) (sym c.loop-place.invariant.order)
    (all_append source.valid (take place ss) (sorted (has_later_top source.rest) (drop place ss)) (all_take source.valid place ss c.requires)
    (sorted_all (has_later_top source.rest) source.valid (drop place ss) (all_dropped source.valid ss place c.requires)))))

pub loop-place-preserved : goal.loop-place-preserved
loop-place-preserved g c =
    let inside : c.loop-place.place - 1 < length c.args.sources.now = omega arith in
    record {
      inside = omega arith;
      order = placed g.S.SortedSource.rest c.args.sources.now c.loop-place.sources c.settle.new.sources (c.loop-place.place - 1) c.loop-place.place (omega arith) inside c.loop-place.auto.sources c.loop-place.invariant.order c.settle.ensures;
    }

pub returns : goal.returns
returns g c =
    let behind = has_later_top g.S.SortedSource.rest in
    let ss = c.args.sources.now in
    let none : c.loop-place.place ≡ zero = omega arith in
    c.loop-place.invariant.order ∙ ap (λ n. take n ss ++ sorted behind (drop n ss)) none
