use Rattle.std.proofs.Common.{◌∙◌, ap, length}
use Rattle.std.specs.Option.{unwrap_or}
use Rattle.cell_key.specs.Runs.{is_plain}
use Rattle.cell_key.proofs.Runs.{first_or_all}
use Rattle.cell_key.proofs.unescaping.plain_run.Goals as goal

pub returns-clause-run : goal.returns-clause-run
returns-clause-run c =
    c.unwrap_or.ensures ∙ ap (λ o. unwrap_or o (length c.args.text.now)) c.first_special.ensures ∙ first_or_all is_plain c.args.text.now
