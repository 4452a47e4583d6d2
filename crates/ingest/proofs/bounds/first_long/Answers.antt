use Rattle.std.proofs.Common.{◌∙◌, ap, sym, arith, Some, None, option_map}
use Rattle.ingest.specs.Refusals.{part_of}
use Rattle.ingest.proofs.Finding.{long_at, long_at_end}
use Rattle.ingest.proofs.bounds.first_long.Goals as goal

pub returns-in-Some : goal.returns-in-Some
returns-in-Some c =
    sym (long_at c.args.updates.now c.loop-i.i c.index-updates-i.result (Some (part_of c.in-Some.part)) (omega arith) c.index-updates-i.is (sym c.long_part.ensures ∙ ap (option_map part_of) c.in-Some.is))
    ∙ c.loop-i.invariant

pub loop-i-preserved : goal.loop-i-preserved
loop-i-preserved c =
    sym (long_at c.args.updates.now c.loop-i.i c.index-updates-i.result None (omega arith) c.index-updates-i.is (sym c.long_part.ensures ∙ ap (option_map part_of) c.in_default.is))
    ∙ c.loop-i.invariant

pub returns : goal.returns
returns c = sym (long_at_end c.args.updates.now c.loop-i.i (omega arith)) ∙ c.loop-i.invariant
