use Rattle.std.proofs.Common.{length, refl, sym, ap, ◌∙◌, subst}
use Rattle.scan_session.specs.ScanCalls.{EndsAs, all_pieces}
use Rattle.scan_session.specs.Sessions.{HasWalked}
use Rattle.scan_session.proofs.SessionWalks.{staying}
use Rattle.scan_session.proofs.Turns.{ends_as, later_refl, later_trans, lost_after, on_err, one_longer, walked_on}
use Rattle.scan_session.proofs.scanner.drive.Goals as goal

pub loop-call-init : goal.loop-call-init
loop-call-init g c = record {
  walked = subst (λ l. HasWalked c.args.session.now c.args.session.now (all_pieces l)) (sym c.new-given.ensures) (staying c.args.session.now);
  each = ap (λ l. length l) c.new-given.ensures;
  ended = subst (EndsAs c.args.session.now) (sym c.new-given.ensures) tt;
  leads = c.requires.leads;
  home = (refl, refl);
  later = later_refl (g.V.Views.looks c.args.views.now) (g.V.Views.newest c.args.views.now);
}

pub loop-call-preserved : goal.loop-call-preserved
loop-call-preserved g c =
    let was = c.loop-call.invariant in
    let said = c.take_turn.ensures in
    record {
      walked = walked_on c.take_turn.new.session c.loop-call.session c.args.session.now c.loop-call.given c.push.new.self c.in_ok-fetched.fetched
          c.in_ok-push.ensures was.walked c.in_ok-fetched.ensures.walked;
      each = one_longer c.loop-call.given c.push.new.self c.in_ok-fetched.fetched c.loop-call.call-index c.in_ok-push.ensures c.loop-call.invariant.each;
      ended = ends_as c.take_turn.new.session c.loop-call.given c.push.new.self c.in_ok-fetched.fetched c.in_ok-push.ensures c.in_ok-fetched.ensures.ended;
      leads = said.leads;
      home = (said.home.0 ∙ was.home.0, said.home.1 ∙ was.home.1);
      later = later_trans (g.V.Views.looks c.args.views.now) (g.V.Views.newest c.args.views.now) (g.V.Views.newest c.loop-call.views)
          (g.V.Views.newest c.take_turn.new.views) was.later (λ h. said.later (was.home.1 ∙ h));
    }

pub returns-in_err-push-clause-failed : goal.returns-in_err-push-clause-failed
returns-in_err-push-clause-failed g c =
    on_err c.from_residual-in_err-push.result
    (lost_after c.take_turn.new.session c.loop-call.session c.args.session.now c.loop-call.given c.in_ok-fetched.fetched
    c.loop-call.invariant.walked c.in_ok-fetched.ensures.walked)

pub returns-in_err-push-clause-later : goal.returns-in_err-push-clause-later
returns-in_err-push-clause-later g c =
    later_trans (g.V.Views.looks c.args.views.now) (g.V.Views.newest c.args.views.now) (g.V.Views.newest c.loop-call.views)
    (g.V.Views.newest c.take_turn.new.views) c.loop-call.invariant.later (λ h. c.take_turn.ensures.later (c.loop-call.invariant.home.1 ∙ h))
