use Rattle.std.proofs.Common.{◌≡◌, ◌+◌, All, length}
use Rattle.live_tablet.specs.Runs.{AreOfTablet}
use Rattle.live_tablet.specs.States.{ReaderState}
use Rattle.live_tablet.proofs.running.scanners_of.Given as goal

abbrev pub invariant-loop-reader : goal.invariant-loop-reader
invariant-loop-reader l = record {
  loader : l.loader ≡ l.fn.loader;
  readers : All (λ (r : ReaderState). r.tablet ≡ l.fn.loader.tablet) l.readers;
  scanners : AreOfTablet l.fn.loader.tablet l.scanners.items;
  each : length l.scanners.items + length l.readers ≡ length l.fn.readers;
}

abbrev pub decreases-loop-reader : goal.decreases-loop-reader
decreases-loop-reader l = length l.readers
