use Rattle.std.proofs.Common.{◌≡◌, ◌++◌, List, ℕ, OnOk, length, sym, ap, ◌∙◌, subst}
use Rattle.std.specs.Arc.{arc_value}
use Rattle.script_text.specs.SessionAnswers.{renewed_line}
use Rattle.script_text.specs.declared.line.SessionStep.TheVariants as step
use Rattle.tablet_replay.specs.Replay.{after_session_step, session_text}
use Rattle.tablet_replay.specs.Sessions.{OpenScan}
use Rattle.tablet_replay.specs.TabletParts.{open_scan, replayed_by}
use Rattle.tablet_replay.specs.declared.sessions.OpenSession.{OpenSession}
use Rattle.tablet_replay.proofs.OpenSessions.{always}
use Rattle.tablet_replay.proofs.Replaying.{none_change, none_text, some_change, some_text}
use Rattle.tablet_replay.proofs.tablet.Tablet.renew.Goals as goal

text : ℕ → ℕ → OpenScan → List ℕ
text number n s = renewed_line number n

change : ℕ → OpenScan → OpenScan
change n s = record s { n = n }

same_view : (c : goal.After-append_renewed) → arc_value c.in_ok-view-in-Some.view ≡ c.self.inside.core.view
same_view c = c.in_ok-view-in-Some.ensures

pub returns-in_ok-view-in-Some-clause-text : goal.returns-in_ok-view-in-Some-clause-text
unfolding session_text text
returns-in_ok-view-in-Some-clause-text c =
    let k = c.self.inside.core in
    let n = c.mutations-n.ensures ∙ ap (λ u. length u.log) (c.deref.ensures ∙ same_view c) in
    subst (λ t. OnOk c.append_renewed.result (c.append_renewed.new.text ≡ c.args.text.now ++ session_text (replayed_by t) c.args.number step.Renew)) c.self.view_is
    (subst (λ l. OnOk c.append_renewed.result (c.append_renewed.new.text ≡ c.args.text.now ++ l))
    (ap (renewed_line c.args.number) n
    ∙ some_text k c.self.inside.sessions c.args.number c.in-Some.i (sym c.place_of.ensures.place ∙ c.in-Some.is) c.renew_at.ensures.before c.renew_at.ensures.at (text c.args.number (length k.view.log)))
    c.append_renewed.ensures)

pub returns-in_ok-view-in-Some-clause-state : goal.returns-in_ok-view-in-Some-clause-state
unfolding after_session_step change
returns-in_ok-view-in-Some-clause-state c =
    let k = c.self.inside.core in
    let g = c.renew_at.ensures in
    let renewed : OpenSession = record g.before { session = record g.before.session { view = arc_value c.in_ok-view-in-Some.view } } in
    always c.append_renewed.result
    (subst (λ t. replayed_by (record { core = k; sessions = c.renew_at.new.self }) ≡ after_session_step (replayed_by t) c.args.number step.Renew) c.self.view_is
    (ap (λ ss. replayed_by (record { core = k; sessions = ss })) g.now
    ∙ some_change k c.self.inside.sessions c.args.number c.in-Some.i (sym c.place_of.ensures.place ∙ c.in-Some.is) g.before g.at (change (length k.view.log)) renewed
    (ap (λ u. open_scan (record g.before { session = record g.before.session { view = u } })) (same_view c))))

pub returns-in-None-clause-text : goal.returns-in-None-clause-text
unfolding session_text text
returns-in-None-clause-text c =
    subst (λ t. OnOk c.append.result (c.append.new.text ≡ c.args.text.now ++ session_text (replayed_by t) c.args.number step.Renew)) c.self.view_is
    (subst (λ l. OnOk c.append.result (c.append.new.text ≡ c.args.text.now ++ l))
    (none_text c.self.inside.core c.self.inside.sessions c.args.number (sym c.place_of.ensures.place ∙ c.in-None.is) (text c.args.number (length c.self.inside.core.view.log)))
    c.append.ensures)

pub returns-in-None-clause-state : goal.returns-in-None-clause-state
unfolding after_session_step change
returns-in-None-clause-state c =
    always c.append.result
    (subst (λ t. replayed_by t ≡ after_session_step (replayed_by t) c.args.number step.Renew) c.self.view_is
    (none_change c.self.inside.core c.self.inside.sessions c.args.number (sym c.place_of.ensures.place ∙ c.in-None.is) (change (length c.self.inside.core.view.log))))
