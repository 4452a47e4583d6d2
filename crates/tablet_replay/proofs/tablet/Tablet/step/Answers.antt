use Rattle.std.proofs.Common.{ap, ◌∙◌}
use Rattle.tablet_steps.specs.ModelSteps.{event_of, model_answer_of}
use Rattle.tablet_replay.specs.Replay.{after_step}
use Rattle.tablet_replay.specs.TabletParts.{replayed_by}
use Rattle.tablet_replay.proofs.Replaying.{pinned_step, step_made, step_replayed, where_ok}
use Rattle.tablet_replay.proofs.tablet.Tablet.step.Goals as goal

pub invariant_of-self : goal.invariant_of-self
invariant_of-self c = pinned_step (event_of c.args.event.now) c.self.inside.core c.step-answer.new.self (model_answer_of c.step-answer.result) c.step-answer.ensures c.self.inside.sessions c.self.invariant

pub returns-clause-state : goal.returns-clause-state
returns-clause-state c =
    let e = event_of c.args.event.now in
    where_ok c.append.result
    (λ some. step_replayed e c.self.inside.core c.step-answer.new.self c.self.inside.sessions
    (step_made e c.self.inside.core c.step-answer.new.self (model_answer_of c.step-answer.result) _ some c.step-answer.ensures)
    ∙ ap (λ t. after_step (replayed_by t) e) c.self.view_is)
    c.append.ensures
