use Rattle.std.proofs.Common.{◌≡◌, ◌++◌, length}
use Rattle.scan_session.specs.Takes.{mode_of, take_together}
use Rattle.scan_session.proofs.Running.{taken_with}
use Rattle.scan_session.proofs.run.take_run.Given as goal

abbrev pub invariant-loop-next : goal.invariant-loop-next
invariant-loop-next g l =
    let source = g.S.SortedSource in
    record {
      valid : source.valid l.source;
      taken : taken_with (mode_of l.isolated) l.count l.run (source.rest l.source) ≡ take_together (mode_of l.isolated) l.count (source.rest l.fn.source);
      left : source.rest l.fn.source ≡ l.run ++ source.rest l.source;
    }

abbrev pub decreases-loop-next : goal.decreases-loop-next
decreases-loop-next g l = length (g.S.SortedSource.rest l.source)
