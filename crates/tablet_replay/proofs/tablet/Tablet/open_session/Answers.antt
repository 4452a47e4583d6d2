use Rattle.std.proofs.Common.{◌≡◌, ◌++◌, length, OnOk, sym, ap, ◌∙◌, subst}
use Rattle.scan_session.specs.Sessions.{number_of}
use Rattle.script_text.specs.SessionAnswers.{opened_line}
use Rattle.script_text.specs.declared.line.SessionStep.TheVariants as step
use Rattle.tablet_replay.specs.Replay.{after_session_step, session_text}
use Rattle.tablet_replay.specs.TabletParts.{open_scan, replayed_by}
use Rattle.tablet_replay.specs.declared.sessions.OpenSession.{OpenSession}
use Rattle.tablet_replay.proofs.OpenSessions.{always, session_there}
use Rattle.tablet_replay.proofs.Replaying.{none_opened, none_pushed, some_kept, some_opened}
use Rattle.tablet_replay.proofs.tablet.Tablet.open_session.Goals as goal

pub returns-in-Some-clause-text : goal.returns-in-Some-clause-text
returns-in-Some-clause-text c =
    let there = session_there c.self.inside.sessions c.in-Some.field-0 c.in-Some.ensures.inside in
    subst (λ t. OnOk c.append.result (c.append.new.text ≡ c.args.text.now ++ session_text (replayed_by t) c.args.number (step.Open c.args.range.now c.args.families.now c.args.isolated))) c.self.view_is
    (subst (λ l. OnOk c.append.result (c.append.new.text ≡ c.args.text.now ++ l))
    (some_opened c.self.inside.core c.self.inside.sessions c.args.number c.in-Some.field-0 (sym c.place_of.ensures.place ∙ c.in-Some.is) there.0 there.1 c.args.range.now c.args.families.now c.args.isolated)
    c.append.ensures)

pub returns-in-Some-clause-state : goal.returns-in-Some-clause-state
returns-in-Some-clause-state c =
    let there = session_there c.self.inside.sessions c.in-Some.field-0 c.in-Some.ensures.inside in
    always c.append.result
    (subst (λ t. replayed_by t ≡ after_session_step (replayed_by t) c.args.number (step.Open c.args.range.now c.args.families.now c.args.isolated)) c.self.view_is
    (some_kept c.self.inside.core c.self.inside.sessions c.args.number c.in-Some.field-0 (sym c.place_of.ensures.place ∙ c.in-Some.is) there.0 there.1 c.args.range.now c.args.families.now c.args.isolated))

pub returns-in_ok-push-in-None-clause-text : goal.returns-in_ok-push-in-None-clause-text
returns-in_ok-push-in-None-clause-text c =
    let k = c.self.inside.core in
    let n : c.n-n.result ≡ length k.view.log = c.n-n.ensures ∙ ap number_of c.in_ok-session-in-None.ensures in
    subst (λ t. OnOk c.append_opened.result (c.append_opened.new.text ≡ c.args.text.now ++ session_text (replayed_by t) c.args.number (step.Open c.args.range.now c.args.families.now c.args.isolated))) c.self.view_is
    (subst (λ l. OnOk c.append_opened.result (c.append_opened.new.text ≡ c.args.text.now ++ l))
    (ap (opened_line c.args.number) n ∙ none_opened k c.self.inside.sessions c.args.number (sym c.place_of.ensures.place ∙ c.in-None.is) c.args.range.now c.args.families.now c.args.isolated)
    c.append_opened.ensures)

pub returns-in_ok-push-in-None-clause-state : goal.returns-in_ok-push-in-None-clause-state
returns-in_ok-push-in-None-clause-state c =
    let k = c.self.inside.core in
    let opened : OpenSession = record { number = c.args.number; session = c.in_ok-session-in-None.session } in
    always c.append_opened.result
    (subst (λ t. replayed_by (record { core = k; sessions = c.push.new.self }) ≡ after_session_step (replayed_by t) c.args.number (step.Open c.args.range.now c.args.families.now c.args.isolated)) c.self.view_is
    (ap (λ ss. replayed_by (record { core = k; sessions = ss })) c.in_ok-push-in-None.ensures
    ∙ none_pushed k c.self.inside.sessions c.args.number (sym c.place_of.ensures.place ∙ c.in-None.is) c.args.range.now c.args.families.now c.args.isolated opened
    (ap (λ u. open_scan (record { number = c.args.number; session = u })) c.in_ok-session-in-None.ensures)))
