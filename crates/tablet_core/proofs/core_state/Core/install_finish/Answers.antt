use Rattle.std.proofs.Common.{◌≡◌, ◌+◌, not, eqb, length, Some, IfSome, option_map, sym, ap, subst, ◌∙◌}
use Rattle.std.specs.Arc.{arc_value}
use Rattle.std.specs.List.{filter}
use Rattle.tablet_model.specs.Steps as model
use Rattle.tablet_model.specs.Steps.{find_job}
use Rattle.sorted_file.specs.Contents.{FileContents}
use Rattle.compactor.specs.Compacted.{entries_made}
use Rattle.tablet_view.specs.Snapshot.{after_major}
use Rattle.tablet_core.specs.State.{Answers, CoreState, IsStandingCore}
use Rattle.tablet_core.proofs.Finishes.{Found, finish_made, finish_nothing, finish_stands, finish_unmade, finished_core, made_in, none_found, some_found}
use Rattle.tablet_core.proofs.Moves.{made}
use Rattle.tablet_core.proofs.core_state.Core.install_finish.Goals as goal

pub returns-in-Err : goal.returns-in-Err
returns-in-Err c = finish_unmade c.args.self.now c.args.job c.in-Err.ensures

pub returns-in-Ok-None : goal.returns-in-Ok-None
returns-in-Ok-None c = finish_nothing c.args.self.now c.args.job (none_found (λ t. after_major c.args.self.now.view t.ids c.args.self.now.next (entries_made c.args.done.now)) (find_job c.args.job c.args.self.now.jobs) (sym (ap (option_map (λ v. arc_value v)) c.in-Ok-None.field-0-is) ∙ c.in-Ok-None.ensures))

pub invariant_of-self : goal.invariant_of-self
unfolding finished_core
invariant_of-self c =
    let x : Found (λ t. after_major c.args.self.now.view t.ids c.args.self.now.next (entries_made c.args.done.now)) (find_job c.args.job c.args.self.now.jobs) (arc_value c.in-Ok-Some.view) = some_found (λ t. after_major c.args.self.now.view t.ids c.args.self.now.next (entries_made c.args.done.now)) (find_job c.args.job c.args.self.now.jobs) (arc_value c.in-Ok-Some.view) (sym (ap (option_map (λ v. arc_value v)) c.in-Ok-Some.field-0-is) ∙ c.in-Ok-Some.ensures) in
    let cells : entries_made c.args.done.now ≡ made_in c.args.self.now x.from = subst (λ o. IfSome o (λ t. entries_made c.args.done.now ≡ made_in c.args.self.now t)) x.found c.requires.made in
    let same : record { view = arc_value c.in-Ok-Some.view; next = c.self.inside.next + 1; jobs = c.end.new.self } ≡ finished_core c.args.self.now c.args.job x.from (entries_made c.args.done.now) = (λ i. record {
      view = x.is i;
      next = (c.self.view_is i).next + 1;
      jobs = (c.end.ensures ∙ ap (λ k. filter (λ u. not (eqb c.args.job u.job)) k.jobs) c.self.view_is) i;
    }) in
    subst IsStandingCore (sym same) (finish_stands c.args.self.now c.args.job x.from (entries_made c.args.done.now) x.found cells c.view.ensures.stands c.view.ensures.jobs)

pub returns-in-Ok-Some : goal.returns-in-Ok-Some
unfolding finished_core
returns-in-Ok-Some c =
    let x : Found (λ t. after_major c.args.self.now.view t.ids c.args.self.now.next (entries_made c.args.done.now)) (find_job c.args.job c.args.self.now.jobs) (arc_value c.in-Ok-Some.view) = some_found (λ t. after_major c.args.self.now.view t.ids c.args.self.now.next (entries_made c.args.done.now)) (find_job c.args.job c.args.self.now.jobs) (arc_value c.in-Ok-Some.view) (sym (ap (option_map (λ v. arc_value v)) c.in-Ok-Some.field-0-is) ∙ c.in-Ok-Some.ensures) in
    let cells : entries_made c.args.done.now ≡ made_in c.args.self.now x.from = subst (λ o. IfSome o (λ t. entries_made c.args.done.now ≡ made_in c.args.self.now t)) x.found c.requires.made in
    let same : record { view = arc_value c.in-Ok-Some.view; next = c.self.inside.next + 1; jobs = c.end.new.self } ≡ finished_core c.args.self.now c.args.job x.from (entries_made c.args.done.now) = (λ i. record {
      view = x.is i;
      next = (c.self.view_is i).next + 1;
      jobs = (c.end.ensures ∙ ap (λ k. filter (λ u. not (eqb c.args.job u.job)) k.jobs) c.self.view_is) i;
    }) in
    let count : c.count.result ≡ length (entries_made c.args.done.now) = c.count.ensures ∙ ap (λ (file : FileContents). length file.cells) c.deref.ensures ∙ ap length c.file.ensures in
    subst (λ (l : CoreState). Answers (model.finish c.args.job) c.args.self.now l (Some (model.finished c.args.job c.self.inside.next c.count.result))) (sym same)
    (subst (λ a. Answers (model.finish c.args.job) c.args.self.now (finished_core c.args.self.now c.args.job x.from (entries_made c.args.done.now)) (Some a)) (λ i. model.finished c.args.job (sym (ap (λ k. k.next) c.self.view_is) i) (sym count i))
    (made (model.finish c.args.job) c.args.self.now _ _ (finish_made c.args.self.now c.args.job x.from (entries_made c.args.done.now) x.found cells)))
