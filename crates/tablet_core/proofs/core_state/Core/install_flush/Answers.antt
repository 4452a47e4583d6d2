use Rattle.std.proofs.Common.{Some, ap, length, subst, sym, ◌+◌, ◌≡◌, ◌∙◌}
use Rattle.std.specs.Arc.{arc_value}
use Rattle.tablet_model.specs.Steps as model
use Rattle.sorted_file.specs.Contents.{FileContents}
use Rattle.compactor.specs.Compacted.{entries_made}
use Rattle.tablet_steps.specs.ModelSteps.{model_refusal_of}
use Rattle.tablet_core.specs.State.{Answers, CoreState, IsStandingCore}
use Rattle.tablet_core.proofs.Flushes.{flush_frozen, flush_made, flush_stands, flushed_core, made_of_frozen}
use Rattle.tablet_core.proofs.Moves.{made, unmade}
use Rattle.tablet_core.proofs.core_state.Core.install_flush.Goals as goal

pub returns-in-Some : goal.returns-in-Some
returns-in-Some c = unmade model.flush c.args.self.now (Some (model_refusal_of c.in-Some.refusal)) c.in-Some.ensures

pub view_after_flush-requires-clause-frozen : goal.view_after_flush-requires-clause-frozen
view_after_flush-requires-clause-frozen c = flush_frozen c.args.self.now c.in_default.ensures

pub view_after_flush-requires-clause-made : goal.view_after_flush-requires-clause-made
view_after_flush-requires-clause-made c = made_of_frozen c.args.self.now (entries_made c.args.done.now) c.in_default.ensures c.requires.made

pub returns-in-Err : goal.returns-in-Err
returns-in-Err c = unmade model.flush c.args.self.now _ (sym c.in_default.ensures)

pub invariant_of-self : goal.invariant_of-self
unfolding flushed_core
invariant_of-self c =
    let same : record { view = arc_value c.in-Ok.view; next = c.self.inside.next + 1; jobs = c.self.inside.jobs } ≡ flushed_core c.args.self.now (entries_made c.args.done.now) = (λ i. record { view = c.in-Ok.ensures i; next = (c.self.view_is i).next + 1; jobs = (c.self.view_is i).jobs }) in
    subst IsStandingCore (sym same) (flush_stands c.args.self.now (entries_made c.args.done.now) c.in_default.ensures (made_of_frozen c.args.self.now (entries_made c.args.done.now) c.in_default.ensures c.requires.made) c.view.ensures.stands c.view.ensures.jobs)

pub returns-in-Ok : goal.returns-in-Ok
unfolding flushed_core
returns-in-Ok c =
    let same : record { view = arc_value c.in-Ok.view; next = c.self.inside.next + 1; jobs = c.self.inside.jobs } ≡ flushed_core c.args.self.now (entries_made c.args.done.now) = (λ i. record { view = c.in-Ok.ensures i; next = (c.self.view_is i).next + 1; jobs = (c.self.view_is i).jobs }) in
    let count : c.count.result ≡ length (entries_made c.args.done.now) = c.count.ensures ∙ ap (λ (file : FileContents). length file.cells) c.deref.ensures ∙ ap length c.file.ensures in
    subst (λ (l : CoreState). Answers model.flush c.args.self.now l (Some (model.flushed c.self.inside.next c.count.result))) (sym same)
    (subst (λ a. Answers model.flush c.args.self.now (flushed_core c.args.self.now (entries_made c.args.done.now)) (Some a)) (λ i. model.flushed (sym (ap (λ k. k.next) c.self.view_is) i) (sym count i))
    (made model.flush c.args.self.now _ _ (flush_made c.args.self.now (entries_made c.args.done.now) c.in_default.ensures (made_of_frozen c.args.self.now (entries_made c.args.done.now) c.in_default.ensures c.requires.made))))
