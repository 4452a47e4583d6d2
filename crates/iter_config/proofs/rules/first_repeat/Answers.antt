use Rattle.std.proofs.Common.{◌+◌, Some, sym, ap, ◌∙◌, arith}
use Rattle.std.proofs.lemmas.List.{length-take-le}
use Rattle.iter_config.specs.Rules.{clashes, own_number}
use Rattle.iter_config.proofs.Repeats.{clash_here, clash_later}
use Rattle.iter_config.proofs.rules.first_repeat.Goals as goal

pub returns-then-clashes_with_one : goal.returns-then-clashes_with_one
returns-then-clashes_with_one c =
    ap (λ n. Some (n + 1)) (sym (length-take-le c.loop-i.i c.args.iterators.now (omega arith)))
    ∙ clash_here own_number (clashes c.args.rule) c.args.iterators.now c.loop-i.i c.index-iterators-i.result (omega arith) c.index-iterators-i.is
    (sym c.clashes_with_one.ensures ∙ c.if-clashes_with_one.true)
    ∙ c.loop-i.invariant

pub loop-i-preserved : goal.loop-i-preserved
loop-i-preserved c =
    clash_later own_number (clashes c.args.rule) c.args.iterators.now c.loop-i.i c.index-iterators-i.result (omega arith) c.index-iterators-i.is
    (sym c.clashes_with_one.ensures ∙ c.if-clashes_with_one.false)
    ∙ c.loop-i.invariant
