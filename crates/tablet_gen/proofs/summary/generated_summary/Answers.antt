use Rattle.std.proofs.Common.{◌≡◌, IfOk, subst, ◌∙◌}
use Rattle.std.specs.Arc.{arc_value}
use Rattle.tablet_core.specs.State.{state_of}
use Rattle.tablet_gen.specs.Configuration.{generator_settings}
use Rattle.tablet_gen.specs.Summary.{summary_behind, summary_of, summary_text}
use Rattle.tablet_gen.proofs.summary.generated_summary.Goals as goal

pub returns : goal.returns
unfolding summary_text
returns c =
    let core = c.in_ok-planned.planned.core in
    let settings : arc_value c.in_ok-config.config ≡ generator_settings = c.in_ok-config.ensures.ok ∙ c.in_ok-configuration.ensures in
    let same : summary_of core.view.config core.view.log (state_of core) ≡ summary_text c.args.start c.args.size =
    (λ i. summary_of (c.in_ok-planned.ensures.config i) (c.in_ok-planned.ensures.log i) (c.in_ok-planned.ensures.store i))
    ∙ (λ i. summary_behind (settings i) (c.in_ok-mutations.ensures i)) in
    subst (λ lines. IfOk c.summary_of.result (λ text. text ≡ lines)) same c.summary_of.ensures
