use Rattle.std.proofs.Common.{◌≡◌, ◌++◌, List, ℕ, OnOk, sym, ap, ◌∙◌, subst}
use Rattle.script_text.specs.SessionAnswers.{closed_line}
use Rattle.script_text.specs.declared.line.SessionStep.TheVariants as step
use Rattle.tablet_replay.specs.Replay.{after_session_step, session_text}
use Rattle.tablet_replay.specs.Sessions.{OpenScan}
use Rattle.tablet_replay.specs.TabletParts.{replayed_by}
use Rattle.tablet_replay.proofs.OpenSessions.{always, session_there}
use Rattle.tablet_replay.proofs.Replaying.{none_closed, none_text, some_closed, some_text}
use Rattle.tablet_replay.proofs.tablet.Tablet.close.Goals as goal

text : ℕ → OpenScan → List ℕ
text number s = closed_line number

pub returns-in-Some-clause-text : goal.returns-in-Some-clause-text
unfolding session_text text
returns-in-Some-clause-text c =
    let there = session_there c.self.inside.sessions c.in-Some.i c.in-Some.ensures.inside in
    subst (λ t. OnOk c.append_closed.result (c.append_closed.new.text ≡ c.args.text.now ++ session_text (replayed_by t) c.args.number step.Close)) c.self.view_is
    (subst (λ l. OnOk c.append_closed.result (c.append_closed.new.text ≡ c.args.text.now ++ l))
    (some_text c.self.inside.core c.self.inside.sessions c.args.number c.in-Some.i (sym c.place_of.ensures.place ∙ c.in-Some.is) there.0 there.1 (text c.args.number))
    c.append_closed.ensures)

pub returns-in-Some-clause-state : goal.returns-in-Some-clause-state
returns-in-Some-clause-state c =
    let there = session_there c.self.inside.sessions c.in-Some.i c.in-Some.ensures.inside in
    always c.append_closed.result
    (subst (λ t. replayed_by (record { core = c.self.inside.core; sessions = c.remove_at.new.self }) ≡ after_session_step (replayed_by t) c.args.number step.Close) c.self.view_is
    (ap (λ ss. replayed_by (record { core = c.self.inside.core; sessions = ss })) c.remove_at.ensures
    ∙ some_closed c.self.inside.core c.self.inside.sessions c.args.number c.in-Some.i (sym c.place_of.ensures.place ∙ c.in-Some.is) there.0 there.1))

pub returns-in-None-clause-text : goal.returns-in-None-clause-text
unfolding session_text text
returns-in-None-clause-text c =
    subst (λ t. OnOk c.append.result (c.append.new.text ≡ c.args.text.now ++ session_text (replayed_by t) c.args.number step.Close)) c.self.view_is
    (subst (λ l. OnOk c.append.result (c.append.new.text ≡ c.args.text.now ++ l))
    (none_text c.self.inside.core c.self.inside.sessions c.args.number (sym c.place_of.ensures.place ∙ c.in-None.is) (text c.args.number))
    c.append.ensures)

pub returns-in-None-clause-state : goal.returns-in-None-clause-state
returns-in-None-clause-state c =
    always c.append.result
    (subst (λ t. replayed_by t ≡ after_session_step (replayed_by t) c.args.number step.Close) c.self.view_is
    (none_closed c.self.inside.core c.self.inside.sessions c.args.number (sym c.place_of.ensures.place ∙ c.in-None.is)))
