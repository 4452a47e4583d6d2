use Rattle.std.proofs.Common.{ap, ◌∙◌, subst, arith}
use Rattle.whole_row.specs.RowReading.{row_reading}
use Rattle.whole_row.specs.RowAnswers.{Gives}
use Rattle.whole_row.proofs.Texts.{text_again}
use Rattle.whole_row.proofs.TextAnswers.{read_is}
use Rattle.whole_row.proofs.reading.decode_row.Goals as goal

pub returns-clause-row : goal.returns-clause-row
returns-clause-row c = (read_is c.args.row.now c.args.bytes.now c.read_row.result c.requires.some c.requires.short (λ i. omega (arith, c.type_inv.bytes i)) c.read_row.ensures).1

pub returns-clause-text : goal.returns-clause-text
returns-clause-text c = (read_is c.args.row.now c.args.bytes.now c.read_row.result c.requires.some c.requires.short (λ i. omega (arith, c.type_inv.bytes i)) c.read_row.ensures).0

pub returns-clause-again : goal.returns-clause-again
returns-clause-again c = λ list is e. subst (Gives (λ entries. entries) c.read_row.result) (ap (row_reading c.args.row.now) e ∙ text_again c.args.row.now list is) c.read_row.ensures
