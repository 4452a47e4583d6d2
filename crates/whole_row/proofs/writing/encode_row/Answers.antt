use Rattle.std.proofs.Common.{◌≡◌, ◌∙◌, subst}
use Rattle.std.specs.Prelude.{IfOk}
use Rattle.tablet_model.specs.RowText.{row_text}
use Rattle.whole_row.proofs.TextAnswers.{read_again, all_put}
use Rattle.whole_row.proofs.writing.encode_row.Goals as goal
use Rattle.whole_row.proofs.writing.encode_row.Goals.{After-drop-buf-inside-2}

text : (c : After-drop-buf-inside-2) → IfOk c.of.result (λ text. text ≡ row_text c.args.entries.now)
text c =
    let l = c.loop-entry in
    subst (λ all. IfOk c.of.result (λ text. text ≡ all))
    (c.text.ensures ∙ all_put l.buf l.entry-index _ c.args.entries.now l.invariant.count l.invariant.bytes l.invariant.items l.auto.entry-index-end c.loop-entry-test.false) c.of.ensures

pub returns-clause-text : goal.returns-clause-text
returns-clause-text c = text c

pub returns-clause-read : goal.returns-clause-read
returns-clause-read c = λ row is. read_again row c.args.entries.now c.of.result is (text c)
