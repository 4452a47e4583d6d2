use Rattle.std.proofs.Common.{◌≡◌, ◌+◌, length, sym, ap, subst, ◌∙◌, arith}
use Rattle.std.specs.Arc.{arc_value}
use Rattle.std.proofs.lemmas.List.{length-append}
use Rattle.std.proofs.lemmas.List.Elements.{All-pop}
use Rattle.scan_session.specs.ScanCalls.{all_pieces}
use Rattle.live_tablet.specs.Runs.{AreNumberedWalks}
use Rattle.live_tablet.specs.Scanners.{ScannerState, mode_of_number}
use Rattle.live_tablet.specs.Scans.{IsScanOver}
use Rattle.live_tablet.proofs.Runs.{numbered_more}
use Rattle.live_tablet.proofs.running.all_walks.Goals as goal

pub loop-scanner-preserved : goal.loop-scanner-preserved
loop-scanner-preserved g c =
    let kept = c.loop-scanner.invariant in
    let whole = arc_value c.args.whole.now in
    let walks = c.loop-scanner.walks.items in
    let given = c.in_ok-given.given in
    let fewer = ap length c.in-Some.ensures.items ∙ length-append c.pop.new.self.items _ in
    let more = ap length c.in_ok-add.ensures ∙ length-append walks _ in
    let number : c.loop-scanner.number + 1 ≡ 1 + length walks = omega (arith, kept.number) in
    record {
      loader = c.in_ok-given.ensures.loader ∙ kept.loader;
      scanners = (All-pop (λ (s : ScannerState). s.reader.tablet ≡ c.args.loader.now.tablet) c.loop-scanner.scanners.items c.pop.new.self.items c.pop.result c.pop.ensures.items kept.scanners).0;
      walks = subst (AreNumberedWalks whole.config whole.log c.args.least c.args.batch 1) (sym c.in_ok-add.ensures)
          (numbered_more whole.config whole.log c.args.least c.args.batch 1 walks given kept.walks record {
            beside = subst (λ k. IsScanOver whole.config whole.log (mode_of_number k) c.args.batch c.args.least (all_pieces given.beside.fetches) given.beside.end) number c.in_ok-given.ensures.beside;
            last = subst (λ k. IsScanOver whole.config whole.log (mode_of_number k) c.args.batch (length whole.log) (all_pieces given.last.fetches) given.last.end) number c.in_ok-given.ensures.last;
          });
      number = omega (arith, kept.number, more);
      each = omega (arith, kept.each, fewer, more);
    }
