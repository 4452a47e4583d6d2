use Rattle.std.proofs.Common.{◌+◌, ◌-◌, ◌∙◌, length, ap, arith}
use Rattle.memory_map.proofs.Joins.{one_more, part_of_all, twice_here}
use Rattle.memory_map.proofs.runs.Joining.of.Goals as goal

pub overflow_add-size : goal.overflow_add-size
overflow_add-size c =
    let run = c.index-runs-kept-in-loop-kept.result in
    let more = one_more c.args.runs.now c.loop-kept.kept c.loop-kept.size c.args.added run (omega arith) c.loop-kept.invariant.inside c.index-runs-kept-in-loop-kept.is c.loop-kept.invariant.counted in
    let all = part_of_all c.args.runs.now (c.loop-kept.kept - 1) c.requires.runs in
    let long = c.len-size.ensures.length ∙ ap length c.deref-in-loop-kept.ensures in
    omega (arith, more, all, long)

pub loop-kept-preserved : goal.loop-kept-preserved
loop-kept-preserved c =
    let run = c.index-runs-kept-in-loop-kept.result in
    let more = one_more c.args.runs.now c.loop-kept.kept c.loop-kept.size c.args.added run (omega arith) c.loop-kept.invariant.inside c.index-runs-kept-in-loop-kept.is c.loop-kept.invariant.counted in
    let long = c.len-size.ensures.length ∙ ap length c.deref-in-loop-kept.ensures in
    record { inside = omega arith; counted = ap (λ n. c.loop-kept.size + n) long ∙ more }

pub returns-else-len-size-clause-twice : goal.returns-else-len-size-clause-twice
returns-else-len-size-clause-twice c =
    let long = c.len.ensures.length ∙ ap length c.deref.ensures in
    let half = c.if-len-size.false in
    twice_here c.args.runs.now c.loop-kept.kept c.loop-kept.size c.index-runs-kept.result (omega arith) c.loop-kept.invariant.inside c.index-runs-kept.is (rw long at half)
