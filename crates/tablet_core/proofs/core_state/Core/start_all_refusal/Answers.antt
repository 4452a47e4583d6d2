use Rattle.std.proofs.Common.{true, false, length, is_some, Some, None, refl, sym, ap, ◌∙◌}
use Rattle.tablet_model.specs.Steps as model
use Rattle.tablet_model.specs.Steps.{find_job, first_missing, first_taken, ids_of, is_empty}
use Rattle.tablet_core.proofs.Starts.{all_reason, all_there, ids_empty, mapped_some, no_length, some_length, start_reason}
use Rattle.tablet_core.proofs.core_state.Core.start_all_refusal.Goals as goal

pub returns-then-is_some : goal.returns-then-is_some
returns-then-is_some c = sym (all_reason c.args.self.now c.args.job ∙ start_reason c.args.self.now c.args.job (ids_of c.args.self.now.view.files) true (is_empty (ids_of c.args.self.now.view.files)) (first_missing (ids_of c.args.self.now.view.files) (ids_of c.args.self.now.view.files)) (first_taken c.args.self.now.jobs (ids_of c.args.self.now.view.files)) (ap (λ k. is_some (find_job c.args.job k.jobs)) (sym c.self.view_is) ∙ mapped_some _ c.find.result _ c.find.ensures ∙ sym c.is_some.ensures ∙ c.if-is_some.true) refl refl refl)

pub returns-then-file_count-eq0 : goal.returns-then-file_count-eq0
returns-then-file_count-eq0 c = sym (all_reason c.args.self.now c.args.job ∙ start_reason c.args.self.now c.args.job (ids_of c.args.self.now.view.files) false true (first_missing (ids_of c.args.self.now.view.files) (ids_of c.args.self.now.view.files)) (first_taken c.args.self.now.jobs (ids_of c.args.self.now.view.files)) (ap (λ k. is_some (find_job c.args.job k.jobs)) (sym c.self.view_is) ∙ mapped_some _ c.find.result _ c.find.ensures ∙ sym c.is_some.ensures ∙ c.if-is_some.false) (ids_empty c.args.self.now.view.files ∙ no_length c.args.self.now.view.files (ap (λ v. length v.files) (sym (c.deref.ensures ∙ ap (λ k. k.view) c.self.view_is)) ∙ sym c.file_count.ensures ∙ c.if-file_count-eq0.true)) refl refl)

pub returns-in-Some : goal.returns-in-Some
returns-in-Some c = sym (all_reason c.args.self.now c.args.job ∙ start_reason c.args.self.now c.args.job (ids_of c.args.self.now.view.files) false false None (Some (model.in_job c.in-Some.file c.in-Some.job)) (ap (λ k. is_some (find_job c.args.job k.jobs)) (sym c.self.view_is) ∙ mapped_some _ c.find.result _ c.find.ensures ∙ sym c.is_some.ensures ∙ c.if-is_some.false) (ids_empty c.args.self.now.view.files ∙ some_length c.args.self.now.view.files (λ e. c.if-file_count-eq0.false (c.file_count.ensures ∙ ap (λ v. length v.files) (c.deref.ensures ∙ ap (λ k. k.view) c.self.view_is) ∙ e))) (all_there c.args.self.now.view.files) ((λ i. first_taken (sym c.self.view_is i).jobs (ids_of (sym (c.deref-2.ensures ∙ ap (λ k. k.view) c.self.view_is) i).files)) ∙ sym c.in-Some.ensures))

pub returns-in-None : goal.returns-in-None
returns-in-None c = all_reason c.args.self.now c.args.job ∙ start_reason c.args.self.now c.args.job (ids_of c.args.self.now.view.files) false false None None (ap (λ k. is_some (find_job c.args.job k.jobs)) (sym c.self.view_is) ∙ mapped_some _ c.find.result _ c.find.ensures ∙ sym c.is_some.ensures ∙ c.if-is_some.false) (ids_empty c.args.self.now.view.files ∙ some_length c.args.self.now.view.files (λ e. c.if-file_count-eq0.false (c.file_count.ensures ∙ ap (λ v. length v.files) (c.deref.ensures ∙ ap (λ k. k.view) c.self.view_is) ∙ e))) (all_there c.args.self.now.view.files) ((λ i. first_taken (sym c.self.view_is i).jobs (ids_of (sym (c.deref-2.ensures ∙ ap (λ k. k.view) c.self.view_is) i).files)) ∙ sym c.in-None.ensures)
