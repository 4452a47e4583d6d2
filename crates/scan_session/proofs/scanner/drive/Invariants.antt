use Rattle.std.proofs.Common.{◌≡◌, length}
use Rattle.scan_session.specs.Looks.{IsLater, Leads}
use Rattle.scan_session.specs.ScanCalls.{EndsAs, all_pieces}
use Rattle.scan_session.specs.Sessions.{HasWalked}
use Rattle.scan_session.proofs.scanner.drive.Given as goal

abbrev pub invariant-loop-call : goal.invariant-loop-call
invariant-loop-call g l =
    let v = g.V.Views in
    record {
      walked : HasWalked l.session l.fn.session (all_pieces l.given);
      each : length l.given ≡ l.call-index;
      ended : EndsAs l.session l.given;
      leads : Leads (v.looks l.views) (v.newest l.views) l.session.view;
      home : (v.home l.views ≡ v.home l.fn.views) × (v.looks l.views ≡ v.looks l.fn.views);
      later : IsLater (v.looks l.fn.views) (v.newest l.fn.views) (v.newest l.views);
    }
