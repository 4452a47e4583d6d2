use Rattle.script_text.proofs.Cutting.{raw_lines-first, raw_lines-last}
use Rattle.script_text.proofs.lines.first_raw_line.Goals as goal

pub returns-in-Some-clause-lines : goal.returns-in-Some-clause-lines
returns-in-Some-clause-lines c = rw (c.split_at.ensures.front, c.split_at.ensures.back) (raw_lines-first c.args.text.now c.in-Some.k c.in-Some.ensures)

pub returns-in-None-clause-lines : goal.returns-in-None-clause-lines
returns-in-None-clause-lines c = raw_lines-last c.args.text.now c.requires c.in-None.ensures
