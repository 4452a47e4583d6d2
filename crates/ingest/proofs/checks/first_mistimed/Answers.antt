use Rattle.std.proofs.Common.{◌∙◌, sym, arith, true, false}
use Rattle.ingest.specs.Checks.{is_mistimed}
use Rattle.ingest.proofs.Finding.{where_at, where_at_end}
use Rattle.ingest.proofs.checks.first_mistimed.Goals as goal

pub returns-then-is_mistimed : goal.returns-then-is_mistimed
returns-then-is_mistimed c =
    sym (where_at (is_mistimed c.args.config.now) c.args.updates.now c.loop-i.i c.index-updates-i.result true (omega arith) c.index-updates-i.is (sym c.is_mistimed.ensures ∙ c.if-is_mistimed.true))
    ∙ c.loop-i.invariant

pub loop-i-preserved : goal.loop-i-preserved
loop-i-preserved c =
    sym (where_at (is_mistimed c.args.config.now) c.args.updates.now c.loop-i.i c.index-updates-i.result false (omega arith) c.index-updates-i.is (sym c.is_mistimed.ensures ∙ c.if-is_mistimed.false))
    ∙ c.loop-i.invariant

pub returns : goal.returns
returns c = sym (where_at_end (is_mistimed c.args.config.now) c.args.updates.now c.loop-i.i (omega arith)) ∙ c.loop-i.invariant
