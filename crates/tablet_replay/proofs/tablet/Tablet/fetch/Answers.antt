use Rattle.std.proofs.Common.{◌≡◌, ◌++◌, sym, ap, ◌∙◌, subst}
use Rattle.tablet_model.proofs.Ingests.{all_at}
use Rattle.script_text.specs.declared.line.SessionStep.TheVariants as step
use Rattle.tablet_io.specs.Streams.{IsSent}
use Rattle.tablet_io.proofs.Pieces.{unsent}
use Rattle.tablet_replay.specs.Replay.{after_session_step, session_text}
use Rattle.tablet_replay.specs.Replies.{Sends}
use Rattle.tablet_replay.specs.SessionSteps.{IsFetchedAt}
use Rattle.tablet_replay.specs.Sessions.{fetch_text, session_behind}
use Rattle.tablet_replay.specs.TabletParts.{ArePinned, IsPinned, replayed_by}
use Rattle.tablet_replay.proofs.OpenSessions.{all_set, always, moved_is, pinned_behind, said_is}
use Rattle.tablet_replay.proofs.Replaying.{none_change, none_text, some_change, some_text}
use Rattle.tablet_replay.proofs.tablet.Tablet.fetch.Given.{Over}
use Rattle.tablet_replay.proofs.tablet.Tablet.fetch.Goals as goal

given : (g : Over) (c : goal.After-drop-fetched g) → IsFetchedAt c.self.inside.sessions c.fetch_at.new.self c.in-Some.i c.args.count c.in_ok-fetched-in-Some.fetched
given g c = c.in_ok-fetched-in-Some.ensures.given

pinned : (g : Over) (c : goal.After-drop-fetched g) → IsPinned c.self.inside.core.view (given g c).before
pinned g c = all_at (IsPinned c.self.inside.core.view) c.self.inside.sessions c.in-Some.i (given g c).before (given g c).at c.self.invariant

pub invariant_of-self : goal.invariant_of-self
invariant_of-self g c = subst (ArePinned c.self.inside.core.view) (sym c.in_err-fetched-in-Some.ensures.failed) c.self.invariant

pub invariant_of-self-in-Some : goal.invariant_of-self-in-Some
invariant_of-self-in-Some g c =
    let f = given g c in
    subst (ArePinned c.self.inside.core.view) (sym f.now)
    (all_set (IsPinned c.self.inside.core.view) c.self.inside.sessions c.in-Some.i (record f.before { session = f.behind }) (pinned_behind c.self.inside.core.view f.before f.behind f.view (pinned g c)) c.self.invariant)

pub returns-in_ok-fetched-in-Some-clause-bytes : goal.returns-in_ok-fetched-in-Some-clause-bytes
unfolding session_text
returns-in_ok-fetched-in-Some-clause-bytes g c =
    let f = given g c in
    let k = c.self.inside.core in
    let sink = g.O.Sink in
    let said = said_is k.view f.before (pinned g c) c.args.count f.behind c.in_ok-fetched-in-Some.fetched.pieces c.in_ok-fetched-in-Some.fetched.ended f.fetch f.same f.view in
    let text = some_text k c.self.inside.sessions c.args.number c.in-Some.i (sym c.place_of.ensures.place ∙ c.in-Some.is) f.before f.at (fetch_text k.view.config k.view.log c.args.count) in
    subst (λ t. Sends (c.args.text.now ++ session_text (replayed_by t) c.args.number (step.Fetch c.args.count)) (sink.taken c.args.output.now) (sink.taken c.send_fetched.new.output) c.send_fetched.new.text c.send_fetched.result) c.self.view_is
    (subst (λ l. Sends (c.args.text.now ++ l) (sink.taken c.args.output.now) (sink.taken c.send_fetched.new.output) c.send_fetched.new.text c.send_fetched.result) (said ∙ text)
    c.send_fetched.ensures.bytes)

pub returns-in_ok-fetched-in-Some-clause-state : goal.returns-in_ok-fetched-in-Some-clause-state
unfolding after_session_step
returns-in_ok-fetched-in-Some-clause-state g c =
    let f = given g c in
    let k = c.self.inside.core in
    always c.send_fetched.result
    (subst (λ t. replayed_by (record { core = k; sessions = c.fetch_at.new.self }) ≡ after_session_step (replayed_by t) c.args.number (step.Fetch c.args.count)) c.self.view_is
    (ap (λ ss. replayed_by (record { core = k; sessions = ss })) f.now
    ∙ some_change k c.self.inside.sessions c.args.number c.in-Some.i (sym c.place_of.ensures.place ∙ c.in-Some.is) f.before f.at
    (session_behind k.view.config k.view.log c.args.count) (record f.before { session = f.behind })
    (moved_is k.view f.before (pinned g c) c.args.count f.behind c.in_ok-fetched-in-Some.fetched.pieces c.in_ok-fetched-in-Some.fetched.ended f.fetch f.same f.view)))

pub returns-in_ok-append-in-None-clause-bytes : goal.returns-in_ok-append-in-None-clause-bytes
unfolding session_text
returns-in_ok-append-in-None-clause-bytes g c =
    let k = c.self.inside.core in
    subst (λ t. IsSent (c.args.text.now ++ session_text (replayed_by t) c.args.number (step.Fetch c.args.count)) (g.O.Sink.taken c.args.output.now) (g.O.Sink.taken c.args.output.now) c.append.new.text) c.self.view_is
    (unsent (c.args.text.now ++ session_text (replayed_by (record { core = k; sessions = c.self.inside.sessions })) c.args.number (step.Fetch c.args.count)) c.append.new.text (g.O.Sink.taken c.args.output.now)
    (c.in_ok-append-in-None.ensures ∙ ap (λ l. c.args.text.now ++ l)
    (none_text k c.self.inside.sessions c.args.number (sym c.place_of.ensures.place ∙ c.in-None.is) (fetch_text k.view.config k.view.log c.args.count))))

pub returns-in_ok-append-in-None-clause-state : goal.returns-in_ok-append-in-None-clause-state
unfolding after_session_step
returns-in_ok-append-in-None-clause-state g c =
    let k = c.self.inside.core in
    subst (λ t. replayed_by t ≡ after_session_step (replayed_by t) c.args.number (step.Fetch c.args.count)) c.self.view_is
    (none_change k c.self.inside.sessions c.args.number (sym c.place_of.ensures.place ∙ c.in-None.is) (session_behind k.view.config k.view.log c.args.count))
