use Rattle.std.proofs.Common.{◌∙◌, sym, arith, true, false}
use Rattle.ingest.proofs.Finding.{twice_at, twice_at_end}
use Rattle.ingest.proofs.checks.first_twice.Goals as goal

pub returns-then-has_twin : goal.returns-then-has_twin
returns-then-has_twin c =
    sym (twice_at c.args.updates.now c.loop-i.i c.index-updates-i.result true (omega arith) c.index-updates-i.is (sym c.has_twin.ensures ∙ c.if-has_twin.true))
    ∙ c.loop-i.invariant

pub loop-i-preserved : goal.loop-i-preserved
loop-i-preserved c =
    sym (twice_at c.args.updates.now c.loop-i.i c.index-updates-i.result false (omega arith) c.index-updates-i.is (sym c.has_twin.ensures ∙ c.if-has_twin.false))
    ∙ c.loop-i.invariant

pub returns : goal.returns
returns c = sym (twice_at_end c.args.updates.now c.loop-i.i (omega arith)) ∙ c.loop-i.invariant
