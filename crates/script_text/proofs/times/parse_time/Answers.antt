use Rattle.std.proofs.Common.{sym, ap, ◌∙◌}
use Rattle.script_text.specs.Numbers.{are_digits}
use Rattle.script_text.proofs.Digits.{other_texts_are_no_times}
use Rattle.script_text.proofs.times.parse_time.Goals as goal

pub returns-then-not-are_digits : goal.returns-then-not-are_digits
returns-then-not-are_digits c =
    other_texts_are_no_times c.args.text.now
    (ap (are_digits 19) (sym c.without_minus.ensures) ∙ sym c.are_digits.ensures ∙ c.if-not-are_digits.true)
