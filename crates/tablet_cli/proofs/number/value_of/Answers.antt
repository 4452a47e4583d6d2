use Rattle.std.proofs.Common.{◌∙◌, ap}
use Rattle.std.specs.Result.{result_ok}
use Rattle.tablet_cli.proofs.Digits.{digits_are_read}
use Rattle.tablet_cli.proofs.number.value_of.Goals as goal

pub returns : goal.returns
returns c = c.ok.ensures.value ∙ ap result_ok (digits_are_read c.args.digits.now c.parse.result c.requires c.parse.ensures.value.0)
