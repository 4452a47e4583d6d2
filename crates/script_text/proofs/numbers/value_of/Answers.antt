use Rattle.std.proofs.Common.{◌∙◌, subst, ap}
use Rattle.std.specs.Result.{result_ok}
use Rattle.std.specs.Str.Parse.{ParsesUnsigned}
use Rattle.script_text.proofs.Digits.{all_digits, digits_are_read, digits_are_text}
use Rattle.script_text.proofs.numbers.value_of.Goals as goal

pub returns-in_default : goal.returns-in_default
returns-in_default c = absurd (c.in_default.ensures.cases.0 (digits_are_text c.args.digits.now (all_digits 10 c.args.digits.now c.requires)))

pub returns : goal.returns
returns c =
    c.ok.ensures.value
    ∙ ap result_ok (digits_are_read c.args.digits.now c.parse.result c.requires
    (subst (λ bytes. ParsesUnsigned 64 10 bytes c.parse.result) c.in-Ok.ensures.cases.0 c.parse.ensures.value.0))
