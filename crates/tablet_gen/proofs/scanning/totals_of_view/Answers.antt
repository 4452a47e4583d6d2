use Rattle.std.proofs.Common.{◌≡◌, None, IfOk, ap, ◌∙◌, subst}
use Rattle.tablet_model.specs.Answers.{answer}
use Rattle.tablet_model.specs.Cuts.{within}
use Rattle.tablet_model.specs.Stages.{stages}
use Rattle.iter_config.specs.Stages.{stages_of}
use Rattle.iter_stack.specs.Usages.{usage_cells}
use Rattle.iter_stack.specs.declared.usage.Usage.TheVariants.{Scan}
use Rattle.script_text.specs.Scans.{all_keys}
use Rattle.tablet_view.specs.Sources.{source_cells}
use Rattle.tablet_gen.specs.Scanned.{AreTotalsOf}
use Rattle.tablet_gen.proofs.scanning.totals_of_view.Goals as goal

pub returns : goal.returns
returns c =
    let v = c.args.view.now in
    let config : c.deref.result.now ≡ v.config = c.deref.ensures ∙ c.config.ensures.config in
    let found : within all_keys (usage_cells c.deref.result.now Scan (source_cells c.in_ok-source.source)) ≡ answer (stages (stages_of v.config)) all_keys None v.log =
    (λ i. within all_keys (usage_cells (config i) Scan (c.in_ok-source.ensures.source.same_cells i)))
    ∙ c.in_ok-source.ensures.answers all_keys
    ∙ ap (λ families. answer (stages (stages_of v.config)) all_keys families v.log) c.all.ensures in
    subst (λ list. IfOk c.totals_of_scan.result (AreTotalsOf list)) found c.totals_of_scan.ensures
