use Rattle.std.proofs.Common.{◌≡◌, OnOk, sym, ap, subst}
use Rattle.tablet_replay.specs.Replay.{after_session_step}
use Rattle.tablet_replay.specs.TabletParts.{replayed_by}
use Rattle.tablet_replay.proofs.OpenSessions.{always}
use Rattle.tablet_replay.proofs.tablet.Tablet.session_step.Goals as goal

pub returns-in-Drop-clause-state : goal.returns-in-Drop-clause-state
unfolding after_session_step
returns-in-Drop-clause-state c =
    subst (λ step. OnOk c.drop_stack.result (replayed_by c.drop_stack.new.self ≡ after_session_step (replayed_by c.args.self.now) c.args.number step)) (sym c.in-Drop.is)
    (always c.drop_stack.result (ap replayed_by c.drop_stack.ensures.same))
