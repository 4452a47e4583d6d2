use Rattle.std.proofs.Common.{◌≡◌, length, Some, ap, ◌∙◌, arith}
use Rattle.std.proofs.lemmas.List.{length-append}
use Rattle.std.proofs.lemmas.List.Elements.{All-pop, All-push}
use Rattle.live_tablet.specs.Scanners.{ScannerState}
use Rattle.live_tablet.specs.States.{LoaderState, ReaderState}
use Rattle.live_tablet.proofs.running.scanners_of.Goals as goal

pub loop-reader-preserved : goal.loop-reader-preserved
loop-reader-preserved c =
    let kept = c.loop-reader.invariant in
    let tablet = c.args.loader.now.tablet in
    let fewer = ap length c.in-Some.ensures ∙ length-append c.take.new.self _ in
    let more = ap length c.in_ok-add.ensures ∙ length-append c.loop-reader.scanners.items _ in
    record {
      loader = c.in_ok-scanner.ensures.loader ∙ kept.loader;
      readers = (All-pop (λ (r : ReaderState). r.tablet ≡ tablet) c.loop-reader.readers c.take.new.self (Some c.in-Some.reader) c.in-Some.ensures kept.readers).0;
      scanners = rw c.in_ok-add.ensures (All-push (λ (s : ScannerState). s.reader.tablet ≡ tablet) c.loop-reader.scanners.items c.in_ok-scanner.scanner kept.scanners
          (c.in_ok-scanner.ensures.tablet ∙ ap (λ (l : LoaderState). l.tablet) kept.loader));
      each = omega (arith, kept.each, fewer, more);
    }
