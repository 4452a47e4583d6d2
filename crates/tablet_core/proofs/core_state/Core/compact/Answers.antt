use Rattle.std.proofs.Common.{◌≡◌, Some, sym, ap, subst, ◌∙◌}
use Rattle.tablet_model.specs.Steps as model
use Rattle.tablet_model.specs.Steps.{takes_all}
use Rattle.tablet_steps.specs.ModelSteps.{model_refusal_of}
use Rattle.tablet_core.specs.State.{Answers, CoreState}
use Rattle.tablet_core.proofs.Moves.{made, unmade}
use Rattle.tablet_core.proofs.Starts.{start_made}
use Rattle.tablet_core.proofs.core_state.Core.compact.Goals as goal

pub returns-in-Some : goal.returns-in-Some
returns-in-Some c = unmade (model.compact c.args.job c.args.files.now) c.args.self.now (Some (model_refusal_of c.in-Some.refusal)) c.in-Some.ensures

pub returns-in-Ok : goal.returns-in-Ok
returns-in-Ok c =
    let full : c.takes_all-full.result ≡ takes_all c.args.files.now c.args.self.now.view.files = c.takes_all-full.ensures ∙ ap (λ v. takes_all c.args.files.now v.files) (c.deref.ensures ∙ c.view.ensures.view) in
    subst (λ (l : CoreState). Answers (model.compact c.args.job c.args.files.now) c.args.self.now l (Some (model.started c.args.job c.takes_all-full.result))) (sym c.in-Ok.ensures)
    (made (model.compact c.args.job c.args.files.now) c.args.self.now _ _ (start_made c.args.self.now (record { job = c.args.job; full = c.takes_all-full.result; ids = c.args.files.now }) c.in_default.ensures full))
