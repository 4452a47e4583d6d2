use Rattle.std.proofs.Common.{rules, ◌≡◌, ◌-◌, false, length, take, drop, ◌∙◌}
use Rattle.compactor.specs.Plans.{is_even}
use Rattle.compactor.proofs.Plans.{even_behind}
use Rattle.compactor.proofs.planner.even_set.Goals as goal

pub loop-i-preserved : goal.loop-i-preserved
loop-i-preserved c =
    let odd : is_even (take (length c.args.files.now - c.loop-i.i) (drop c.loop-i.i c.args.files.now)) ≡ false = search rules in
    c.loop-i.invariant ∙ even_behind c.args.files.now c.loop-i.i c.loop-i-test.true odd
