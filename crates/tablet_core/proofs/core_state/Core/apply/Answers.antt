use Rattle.std.proofs.Common.{Some, None, [], ◌+◌, ◌∷◌, ap, length, length-append, subst, sym, ◌≡◌, ◌∙◌}
use Rattle.std.specs.Arc.{arc_value}
use Rattle.tablet_model.specs.History.{RowChange}
use Rattle.tablet_model.specs.Steps as model
use Rattle.cell_key.specs.Mutations.{row_change_of}
use Rattle.ingest.specs.Refusals.{refusal_of}
use Rattle.tablet_view.specs.Refusals.{refusal_in}
use Rattle.tablet_view.specs.Snapshot.{after_apply}
use Rattle.tablet_core.specs.State.{Answers, CoreState, IsStandingCore}
use Rattle.tablet_core.proofs.Applies.{apply_made, apply_reason, apply_stands}
use Rattle.tablet_core.proofs.Moves.{made, unmade}
use Rattle.tablet_core.proofs.core_state.Core.apply.Goals as goal

pub returns-in-Err-Refused : goal.returns-in-Err-Refused
returns-in-Err-Refused c =
    let m : RowChange = row_change_of c.args.mutation.now in
    unmade (model.apply m) c.args.self.now (Some (model.refused (refusal_of c.in-Err-Refused.refused))) (sym (apply_reason c.args.self.now m (Some (refusal_of c.in-Err-Refused.refused)) (c.in-Err-Refused.ensures ∙ ap refusal_in c.in-Err-Refused.field-0-is)))

pub returns-in-Err-NoMemory : goal.returns-in-Err-NoMemory
returns-in-Err-NoMemory c =
    let m : RowChange = row_change_of c.args.mutation.now in
    unmade (model.apply m) c.args.self.now None (sym (apply_reason c.args.self.now m None (c.in-Err-NoMemory.ensures ∙ ap refusal_in c.in-Err-NoMemory.field-0-is)))

pub invariant_of-self : goal.invariant_of-self
invariant_of-self c =
    let m : RowChange = row_change_of c.args.mutation.now in
    let same : record { view = arc_value c.in-Ok.view; next = c.self.inside.next; jobs = c.self.inside.jobs } ≡ record c.args.self.now { view = after_apply c.args.self.now.view m } = (λ i. record { view = c.in-Ok.ensures.1 i; next = (c.self.view_is i).next; jobs = (c.self.view_is i).jobs }) in
    subst IsStandingCore (sym same) (apply_stands c.args.self.now m c.in-Ok.ensures.0 c.view.ensures.stands c.view.ensures.jobs)

pub returns-in-Ok : goal.returns-in-Ok
returns-in-Ok c =
    let m : RowChange = row_change_of c.args.mutation.now in
    let same : record { view = arc_value c.in-Ok.view; next = c.self.inside.next; jobs = c.self.inside.jobs } ≡ record c.args.self.now { view = after_apply c.args.self.now.view m } = (λ i. record { view = c.in-Ok.ensures.1 i; next = (c.self.view_is i).next; jobs = (c.self.view_is i).jobs }) in
    let number : c.mutations-number.result ≡ length c.args.self.now.view.log + 1 = c.mutations-number.ensures ∙ ap (λ v. length v.log) (c.deref.ensures ∙ c.in-Ok.ensures.1) ∙ length-append c.args.self.now.view.log (m ∷ []) in
    subst (λ (l : CoreState). Answers (model.apply m) c.args.self.now l (Some (model.applied c.mutations-number.result))) (sym same)
    (subst (λ n. Answers (model.apply m) c.args.self.now (record c.args.self.now { view = after_apply c.args.self.now.view m }) (Some (model.applied n))) (sym number)
    (made (model.apply m) c.args.self.now _ _ (apply_made c.args.self.now m c.in-Ok.ensures.0)))
