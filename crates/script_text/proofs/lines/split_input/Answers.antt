use Rattle.std.proofs.Common.{sym, ◌∙◌}
use Rattle.script_text.proofs.Cutting.{IsFront-more}
use Rattle.script_text.proofs.lines.split_input.Goals as goal

pub loop-rest-preserved : goal.loop-rest-preserved
loop-rest-preserved c =
    IsFront-more _ _ c.loop-rest.rest.now c.loop-rest.invariant _ _ c.first_raw_line.ensures.lines c.first_raw_line.ensures.whole (sym c.is_separator.ensures ∙ c.if-is_separator.false)
