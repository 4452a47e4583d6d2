use Rattle.script_text.proofs.Cutting.{concat-raw_lines}
use Rattle.script_text.proofs.line_laws.lines_are_whole.Goals as goal

pub returns : goal.returns
returns c = concat-raw_lines
