use Rattle.std.proofs.Common.{◌≡◌, Some, sym, subst, ◌∙◌, OnOk}
use Rattle.tablet_model.specs.Steps.{log_after}
use Rattle.tablet_loader.specs.States.{load_of}
use Rattle.tablet_loader.proofs.Loads.{jobs_begun}
use Rattle.tablet_loader.proofs.loader.Loader.begin_jobs.Goals as goal

pub returns-in-Some-clause-load : goal.returns-in-Some-clause-load
returns-in-Some-clause-load c =
    subst (λ after. OnOk c.start.result (load_of c.start.new.self ≡ after))
    (jobs_begun c.args.self.now c.step.new.core (Some c.in-Some.files) c.as_slice.result.now c.in_ok-step.ensures.made (c.as_slice.ensures ∙ c.in_ok-status.ensures.files) (sym c.in-Some.is ∙ c.plan.ensures))
    c.start.ensures.load

pub returns-in-Some-clause-log : goal.returns-in-Some-clause-log
unfolding log_after
returns-in-Some-clause-log c =
    subst (λ log. OnOk c.start.result (c.start.new.self.core.view.log ≡ log)) c.in_ok-step.ensures.made.log c.start.ensures.log

pub returns-clause-load : goal.returns-clause-load
returns-clause-load c =
    jobs_begun c.args.self.now c.step.new.core _ c.as_slice.result.now c.in_ok-step.ensures.made (c.as_slice.ensures ∙ c.in_ok-status.ensures.files) (sym c.in-None.is ∙ c.plan.ensures)

pub returns-clause-log : goal.returns-clause-log
unfolding log_after
returns-clause-log c = c.in_ok-step.ensures.made.log
