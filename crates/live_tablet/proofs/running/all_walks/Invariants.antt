use Rattle.std.proofs.Common.{◌≡◌, ◌+◌, length, vec_len}
use Rattle.std.specs.Arc.{arc_value}
use Rattle.live_tablet.specs.Runs.{AreNumberedWalks, AreOfTablet}
use Rattle.live_tablet.proofs.running.all_walks.Given as goal

abbrev pub invariant-loop-scanner : goal.invariant-loop-scanner
invariant-loop-scanner g l =
    let whole = arc_value l.fn.whole in
    record {
      loader : l.loader ≡ l.fn.loader;
      scanners : AreOfTablet l.fn.loader.tablet l.scanners.items;
      walks : AreNumberedWalks whole.config whole.log l.fn.least l.fn.batch 1 l.walks.items;
      number : l.number ≡ length l.walks.items;
      each : length l.walks.items + length l.scanners.items ≡ length l.fn.scanners.items;
    }

abbrev pub decreases-loop-scanner : goal.decreases-loop-scanner
decreases-loop-scanner g l = vec_len l.scanners
