use Rattle.std.proofs.Common.{true, false, is_some, Some, None, refl, sym, ap, ◌∙◌}
use Rattle.tablet_model.specs.Steps as model
use Rattle.tablet_model.specs.Steps.{find_job, first_missing, first_taken, ids_of, is_empty}
use Rattle.tablet_core.proofs.Starts.{mapped_some, no_length, some_length, start_reason}
use Rattle.tablet_core.proofs.core_state.Core.start_refusal.Goals as goal

pub returns-then-is_some : goal.returns-then-is_some
returns-then-is_some c = sym (start_reason c.args.self.now c.args.job c.args.files.now true (is_empty c.args.files.now) (first_missing (ids_of c.args.self.now.view.files) c.args.files.now) (first_taken c.args.self.now.jobs c.args.files.now) (ap (λ k. is_some (find_job c.args.job k.jobs)) (sym c.self.view_is) ∙ mapped_some _ c.find.result _ c.find.ensures ∙ sym c.is_some.ensures ∙ c.if-is_some.true) refl refl refl)

pub returns-then-len-eq0 : goal.returns-then-len-eq0
returns-then-len-eq0 c = sym (start_reason c.args.self.now c.args.job c.args.files.now false true (first_missing (ids_of c.args.self.now.view.files) c.args.files.now) (first_taken c.args.self.now.jobs c.args.files.now) (ap (λ k. is_some (find_job c.args.job k.jobs)) (sym c.self.view_is) ∙ mapped_some _ c.find.result _ c.find.ensures ∙ sym c.is_some.ensures ∙ c.if-is_some.false) (no_length c.args.files.now (sym c.len.ensures ∙ c.if-len-eq0.true)) refl refl)

pub returns-in-Some : goal.returns-in-Some
returns-in-Some c = sym (start_reason c.args.self.now c.args.job c.args.files.now false false (Some (model.no_such_file c.in-Some.file)) (first_taken c.args.self.now.jobs c.args.files.now) (ap (λ k. is_some (find_job c.args.job k.jobs)) (sym c.self.view_is) ∙ mapped_some _ c.find.result _ c.find.ensures ∙ sym c.is_some.ensures ∙ c.if-is_some.false) (some_length c.args.files.now (λ e. c.if-len-eq0.false (c.len.ensures ∙ e))) (ap (λ v. first_missing (ids_of v.files) c.args.files.now) (sym (c.deref.ensures ∙ ap (λ k. k.view) c.self.view_is)) ∙ sym c.in-Some.ensures) refl)

pub returns-in-Some-first_taken : goal.returns-in-Some-first_taken
returns-in-Some-first_taken c = sym (start_reason c.args.self.now c.args.job c.args.files.now false false None (Some (model.in_job c.in-Some-first_taken.file c.in-Some-first_taken.job)) (ap (λ k. is_some (find_job c.args.job k.jobs)) (sym c.self.view_is) ∙ mapped_some _ c.find.result _ c.find.ensures ∙ sym c.is_some.ensures ∙ c.if-is_some.false) (some_length c.args.files.now (λ e. c.if-len-eq0.false (c.len.ensures ∙ e))) (ap (λ v. first_missing (ids_of v.files) c.args.files.now) (sym (c.deref.ensures ∙ ap (λ k. k.view) c.self.view_is)) ∙ sym c.in_default.ensures) (ap (λ k. first_taken k.jobs c.args.files.now) (sym c.self.view_is) ∙ sym c.in-Some-first_taken.ensures))

pub returns-in-None : goal.returns-in-None
returns-in-None c = start_reason c.args.self.now c.args.job c.args.files.now false false None None (ap (λ k. is_some (find_job c.args.job k.jobs)) (sym c.self.view_is) ∙ mapped_some _ c.find.result _ c.find.ensures ∙ sym c.is_some.ensures ∙ c.if-is_some.false) (some_length c.args.files.now (λ e. c.if-len-eq0.false (c.len.ensures ∙ e))) (ap (λ v. first_missing (ids_of v.files) c.args.files.now) (sym (c.deref.ensures ∙ ap (λ k. k.view) c.self.view_is)) ∙ sym c.in_default.ensures) (ap (λ k. first_taken k.jobs c.args.files.now) (sym c.self.view_is) ∙ sym c.in-None.ensures)
