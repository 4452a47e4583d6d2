use Rattle.std.proofs.Common.{◌≡◌, ◌≤◌, length, refl, ap, subst, arith}
use Rattle.std.specs.Arc.{arc_value}
use Rattle.tablet_view.proofs.Logs.{begins_length}
use Rattle.scan_session.specs.Looks.{Leads}
use Rattle.scan_session.specs.Runs.{place_behind}
use Rattle.scan_session.specs.Sessions.{SessionState, left_of, number_of}
use Rattle.scan_session.proofs.Fetches.{fetch_enough, fetch_over, fetch_walks}
use Rattle.scan_session.proofs.SessionWalks.{answers_ascend}
use Rattle.scan_session.proofs.session.Session.fetch.Goals as goal

pub returns-clause-one_number : goal.returns-clause-one_number
returns-clause-one_number g c =
    let old : SessionState = c.args.self.now in
    let view = c.deref.result.now in
    fetch_over c.args.count old c.go_on.new.self (arc_value c.in_ok-view.view) view old.mode
    (place_behind c.in_ok-fetched.position old.place) (left_of (record old { view = view })) (length view.log) c.in_ok-fetched.fetched.pieces c.in_ok-fetched.fetched.ended
    c.go_on.ensures
    refl
    c.deref.ensures
    (answers_ascend (record old { view = view }) view.log)
    refl
    (ap (λ v. length v.log) c.deref.ensures)
    c.in_ok-fetched.ensures.pieces
    (c.in_ok-fetched.ensures.place old.place)
    c.in_ok-fetched.ensures.ended

pub returns-clause-walk : goal.returns-clause-walk
returns-clause-walk g c =
    let longer : length (arc_value c.self.inside.view).log ≤ length (arc_value c.in_ok-view.view).log =
    begins_length (arc_value c.in_ok-view.view).log (arc_value c.self.inside.view).log c.in_ok-view.ensures.extends.log in
    let before : length (arc_value c.self.inside.view).log ≡ number_of c.args.self.now = ap (λ (s : SessionState). number_of s) c.self.view_is in
    let after : number_of c.go_on.new.self ≡ length (arc_value c.in_ok-view.view).log = ap (λ (s : SessionState). number_of s) c.go_on.ensures in
    let more : number_of c.args.self.now ≤ number_of c.go_on.new.self = omega arith in
    fetch_walks c.args.count c.args.self.now.place c.go_on.new.self c.in_ok-fetched.fetched.pieces c.in_ok-fetched.fetched.ended (number_of c.args.self.now) (returns-clause-one_number g c) more

pub returns-clause-sorted : goal.returns-clause-sorted
returns-clause-sorted g c = answers_ascend c.go_on.new.self

pub returns-clause-enough : goal.returns-clause-enough
returns-clause-enough g c =
    fetch_enough c.args.count c.args.self.now.place c.go_on.new.self c.in_ok-fetched.fetched.pieces c.in_ok-fetched.fetched.ended
    (answers_ascend c.go_on.new.self) (returns-clause-one_number g c)

pub returns-clause-ended : goal.returns-clause-ended
returns-clause-ended g c = (returns-clause-one_number g c).ended

-- the session has the view that it had
pub returns-in_err-fetched-clause-leads : goal.returns-in_err-fetched-clause-leads
returns-in_err-fetched-clause-leads g c =
    subst (λ v. Leads (g.V.Views.looks c.newest.new.views) (g.V.Views.newest c.newest.new.views) v) (ap (λ (s : SessionState). s.view) c.self.view_is) c.newest.ensures.leads
