use Rattle.std.proofs.Common.{◌∙◌, subst}
use Rattle.std.specs.Int.{w64}
use Rattle.std.specs.Str.Parse.{ParsesSigned}
use Rattle.number_values.proofs.Decimals.{parsed_is, not_text}
use Rattle.number_values.proofs.reading.parsed.Goals as goal

pub returns-in_default : goal.returns-in_default
returns-in_default c = not_text c.args.bytes.now c.in_default.ensures.cases.0

pub returns : goal.returns
returns c =
    c.ok.ensures.value
    ∙ parsed_is c.args.bytes.now c.parse.result c.requires (subst (λ b. ParsesSigned w64 10 b c.parse.result) c.in-Ok.ensures.cases.0 c.parse.ensures.value.0)
