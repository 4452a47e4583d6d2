use Rattle.std.proofs.Common.{Some, ap, length, subst, sym, ◌≡◌, ◌∙◌}
use Rattle.std.specs.Arc.{arc_value}
use Rattle.tablet_model.specs.Steps as model
use Rattle.tablet_view.specs.Snapshot.{after_freeze}
use Rattle.tablet_steps.specs.ModelSteps.{model_refusal_of}
use Rattle.tablet_core.specs.State.{Answers, CoreState, IsStandingCore}
use Rattle.tablet_core.proofs.Freezes.{freeze_free, freeze_made, freeze_stands}
use Rattle.tablet_core.proofs.Moves.{made, unmade}
use Rattle.tablet_core.proofs.core_state.Core.freeze.Goals as goal

pub returns-in-Some : goal.returns-in-Some
returns-in-Some c = unmade model.freeze c.args.self.now (Some (model_refusal_of c.in-Some.refusal)) c.in-Some.ensures

pub frozen-requires-clause-free : goal.frozen-requires-clause-free
frozen-requires-clause-free c = freeze_free c.args.self.now c.in_default.ensures

pub returns-in-Err : goal.returns-in-Err
returns-in-Err c = unmade model.freeze c.args.self.now _ (sym c.in_default.ensures)

pub invariant_of-self : goal.invariant_of-self
invariant_of-self c =
    let same : record { view = arc_value c.in-Ok.view; next = c.self.inside.next; jobs = c.self.inside.jobs } ≡ record c.args.self.now { view = after_freeze c.args.self.now.view } = (λ i. record { view = c.in-Ok.ensures i; next = (c.self.view_is i).next; jobs = (c.self.view_is i).jobs }) in
    subst IsStandingCore (sym same) (freeze_stands c.args.self.now c.in_default.ensures c.view.ensures.stands c.view.ensures.jobs)

pub returns-in-Ok : goal.returns-in-Ok
returns-in-Ok c =
    let same : record { view = arc_value c.in-Ok.view; next = c.self.inside.next; jobs = c.self.inside.jobs } ≡ record c.args.self.now { view = after_freeze c.args.self.now.view } = (λ i. record { view = c.in-Ok.ensures i; next = (c.self.view_is i).next; jobs = (c.self.view_is i).jobs }) in
    let count : length c.args.self.now.view.memory ≡ c.memory_count-count.result = ap (λ v. length v.memory) (sym (c.deref.ensures ∙ c.view.ensures.view)) ∙ sym c.memory_count-count.ensures in
    subst (λ (l : CoreState). Answers model.freeze c.args.self.now l (Some (model.froze c.memory_count-count.result))) (sym same)
    (subst (λ n. Answers model.freeze c.args.self.now (record c.args.self.now { view = after_freeze c.args.self.now.view }) (Some (model.froze n))) count
    (made model.freeze c.args.self.now _ _ (freeze_made c.args.self.now c.in_default.ensures)))
