use Rattle.std.proofs.Common.{Some, ℕ, List, sym, ap, subst, ◌∙◌}
use Rattle.tablet_model.specs.Stands.{AreRising}
use Rattle.tablet_model.specs.Steps as model
use Rattle.tablet_model.specs.Steps.{ids_of}
use Rattle.tablet_view.specs.Snapshot.{store_of}
use Rattle.tablet_steps.specs.ModelSteps.{model_answer_of, model_refusal_of}
use Rattle.tablet_core.specs.State.{Answers}
use Rattle.tablet_core.proofs.Moves.{unmade}
use Rattle.tablet_core.proofs.Starts.{all_answers}
use Rattle.tablet_core.proofs.core_state.Core.compact_all.Goals as goal

pub returns-in-Some : goal.returns-in-Some
returns-in-Some c = unmade (model.compact_all c.args.job) c.args.self.now (Some (model_refusal_of c.in-Some.refusal)) c.in-Some.ensures

pub file_ids-requires : goal.file_ids-requires
unfolding store_of
file_ids-requires c = subst (λ v. AreRising v.files) (sym (c.deref.ensures ∙ c.view.ensures.view)) c.view.ensures.stands.parts.rising

pub returns-in-Ok : goal.returns-in-Ok
returns-in-Ok c =
    all_answers c.args.self.now c.compact.new.self c.args.job (model_answer_of c.compact.result)
    (subst (λ (ids : List ℕ). Answers (model.compact c.args.job ids) c.args.self.now c.compact.new.self (model_answer_of c.compact.result)) (c.in-Ok.ensures ∙ ap (λ v. ids_of v.files) (c.deref.ensures ∙ c.view.ensures.view)) c.compact.ensures)
