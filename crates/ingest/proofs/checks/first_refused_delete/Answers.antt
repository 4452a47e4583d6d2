use Rattle.std.proofs.Common.{◌∙◌, sym, arith, true, false}
use Rattle.ingest.specs.Checks.{is_refused_delete}
use Rattle.ingest.proofs.Finding.{where_at, where_at_end}
use Rattle.ingest.proofs.checks.first_refused_delete.Goals as goal

pub returns-then-is_refused_delete : goal.returns-then-is_refused_delete
returns-then-is_refused_delete c =
    sym (where_at (is_refused_delete c.args.config.now) c.args.updates.now c.loop-i.i c.index-updates-i.result true (omega arith) c.index-updates-i.is (sym c.is_refused_delete.ensures ∙ c.if-is_refused_delete.true))
    ∙ c.loop-i.invariant

pub loop-i-preserved : goal.loop-i-preserved
loop-i-preserved c =
    sym (where_at (is_refused_delete c.args.config.now) c.args.updates.now c.loop-i.i c.index-updates-i.result false (omega arith) c.index-updates-i.is (sym c.is_refused_delete.ensures ∙ c.if-is_refused_delete.false))
    ∙ c.loop-i.invariant

pub returns : goal.returns
returns c = sym (where_at_end (is_refused_delete c.args.config.now) c.args.updates.now c.loop-i.i (omega arith)) ∙ c.loop-i.invariant
