use Rattle.std.proofs.Common.{◌≡◌, None, IfOk, subst, ◌∙◌}
use Rattle.tablet_model.specs.Answers.{answer}
use Rattle.tablet_model.specs.Stages.{stages}
use Rattle.iter_config.specs.Stages.{stages_of}
use Rattle.script_text.specs.Scans.{all_keys}
use Rattle.tablet_view.specs.Snapshot.{Snapshot}
use Rattle.tablet_gen.specs.Scanned.{AreTotalsOf}
use Rattle.tablet_gen.proofs.Summaries.{summary_is}
use Rattle.tablet_gen.proofs.summary.summary_of.Goals as goal

pub returns : goal.returns
returns c =
    let view : c.deref.result.now ≡ c.args.core.now.view = c.deref.ensures ∙ c.view.ensures.view in
    let totals = subst (λ (v : Snapshot). AreTotalsOf (answer (stages (stages_of v.config)) all_keys None v.log) c.in_ok-totals.totals) view c.in_ok-totals.ensures in
    subst (λ lines. IfOk c.summary_lines.result (λ text. text ≡ lines)) (summary_is c.args.core.now c.in_ok-status.status c.in_ok-totals.totals c.in_ok-status.ensures totals) c.summary_lines.ensures
