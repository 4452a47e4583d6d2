use Rattle.std.proofs.Common.{◌≡◌, ◌++◌, List, ℕ, OnOk, sym, ◌∙◌, subst}
use Rattle.script_text.specs.SessionAnswers.{dropped_line}
use Rattle.script_text.specs.declared.line.SessionStep.TheVariants as step
use Rattle.tablet_replay.specs.Replay.{session_text}
use Rattle.tablet_replay.specs.Sessions.{OpenScan}
use Rattle.tablet_replay.specs.TabletParts.{replayed_by}
use Rattle.tablet_replay.proofs.OpenSessions.{session_there}
use Rattle.tablet_replay.proofs.Replaying.{none_text, some_text}
use Rattle.tablet_replay.proofs.tablet.Tablet.drop_stack.Goals as goal

text : ℕ → OpenScan → List ℕ
text number s = dropped_line number

pub returns-in-Some-clause-text : goal.returns-in-Some-clause-text
unfolding session_text text
returns-in-Some-clause-text c =
    let there = session_there c.self.inside.sessions c.in-Some.i c.in-Some.ensures.inside in
    subst (λ t. OnOk c.append_dropped.result (c.append_dropped.new.text ≡ c.args.text.now ++ session_text (replayed_by t) c.args.number step.Drop)) c.self.view_is
    (subst (λ l. OnOk c.append_dropped.result (c.append_dropped.new.text ≡ c.args.text.now ++ l))
    (some_text c.self.inside.core c.self.inside.sessions c.args.number c.in-Some.i (sym c.place_of.ensures.place ∙ c.in-Some.is) there.0 there.1 (text c.args.number))
    c.append_dropped.ensures)

pub returns-in-None-clause-text : goal.returns-in-None-clause-text
unfolding session_text text
returns-in-None-clause-text c =
    subst (λ t. OnOk c.append.result (c.append.new.text ≡ c.args.text.now ++ session_text (replayed_by t) c.args.number step.Drop)) c.self.view_is
    (subst (λ l. OnOk c.append.result (c.append.new.text ≡ c.args.text.now ++ l))
    (none_text c.self.inside.core c.self.inside.sessions c.args.number (sym c.place_of.ensures.place ∙ c.in-None.is) (text c.args.number))
    c.append.ensures)
