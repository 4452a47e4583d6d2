use Rattle.std.proofs.Common.{sym, ◌∙◌}
use Rattle.script_text.proofs.Wording.{words_of-blank, words_of-first, words_of-only}
use Rattle.script_text.proofs.words.next_word.Goals as goal

pub returns-in_err-start-clause-words : goal.returns-in_err-start-clause-words
returns-in_err-start-clause-words c = rw c.from_residual.ensures (words_of-blank c.args.text.now (sym c.in_err-start.was ∙ c.word_start.ensures))

pub returns-in-Some-clause-words : goal.returns-in-Some-clause-words
returns-in-Some-clause-words c = rw (c.split_at.ensures.front, c.split_at.ensures.back) (words_of-first c.args.text.now c.in_ok-start.start c.in-Some.end c.in_ok-start.ensures c.in-Some.ensures)

pub returns-in-None-clause-words : goal.returns-in-None-clause-words
returns-in-None-clause-words c = words_of-only c.args.text.now c.in_ok-start.start c.in_ok-start.ensures c.in-None.ensures
