use Rattle.std.proofs.Common.{◌∙◌, subst}
use Rattle.std.specs.Int.{w64}
use Rattle.std.specs.Str.Parse.{ParsesSigned}
use Rattle.script_text.proofs.Digits.{times_are_read, times_are_text}
use Rattle.script_text.proofs.times.signed_value.Goals as goal

pub returns-in_default : goal.returns-in_default
returns-in_default c = absurd (c.in_default.ensures.cases.0 (times_are_text c.args.text.now c.requires))

pub returns : goal.returns
returns c =
    c.ok.ensures.value
    ∙ times_are_read c.args.text.now c.parse.result c.requires (subst (λ bytes. ParsesSigned w64 10 bytes c.parse.result) c.in-Ok.ensures.cases.0 c.parse.ensures.value.0)
