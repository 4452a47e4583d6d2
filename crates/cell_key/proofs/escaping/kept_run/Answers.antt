use Rattle.std.proofs.Common.{◌∙◌, ap, length}
use Rattle.std.specs.Option.{unwrap_or}
use Rattle.cell_key.specs.Escape.{is_kept}
use Rattle.cell_key.proofs.Runs.{first_or_all}
use Rattle.cell_key.proofs.escaping.kept_run.Goals as goal

pub returns-clause-run : goal.returns-clause-run
returns-clause-run c =
    c.unwrap_or.ensures ∙ ap (λ o. unwrap_or o (length c.args.bytes.now)) c.first_spelled.ensures ∙ first_or_all is_kept c.args.bytes.now
