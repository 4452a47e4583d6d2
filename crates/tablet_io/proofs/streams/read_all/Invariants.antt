use Rattle.std.proofs.Common.{◌≤◌, ◌-◌, length, IfSome}
use Rattle.tablet_io.proofs.Streaming.{IsReadSoFar}
use Rattle.tablet_io.proofs.streams.read_all.Given as goal

abbrev pub invariant-loop-text : goal.invariant-loop-text
invariant-loop-text g l =
    let source = g.I.Source in
    record {
      bound : length l.text ≤ l.max;
      read : IfSome (source.left l.fn.source) (λ left. IsReadSoFar l.text left (source.left l.source));
      count : source.faults l.fn.source ≤ source.faults l.source;
    }

abbrev pub decreases-loop-text : goal.decreases-loop-text
decreases-loop-text g l = l.max - length l.text
