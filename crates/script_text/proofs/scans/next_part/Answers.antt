use Rattle.std.proofs.Common.{sym, ◌∙◌}
use Rattle.memchr.specs.Find.{is_byte}
use Rattle.script_text.specs.Code.{comma}
use Rattle.script_text.proofs.Splitting.{split_nowhere, split_rest}
use Rattle.script_text.proofs.scans.next_part.Goals as goal

pub returns-in_err-k-clause-parts : goal.returns-in_err-k-clause-parts
returns-in_err-k-clause-parts c = rw c.from_residual.ensures (split_nowhere (is_byte comma) c.args.text.now (sym c.in_err-k.was ∙ c.find_byte.ensures))

pub returns-clause-parts : goal.returns-clause-parts
returns-clause-parts c = split_rest (is_byte comma) c.args.text.now c.in_ok-k.k (sym c.in_ok-k.was ∙ c.find_byte.ensures)
