use Rattle.std.proofs.Common.{◌≡◌, length}
use Rattle.stack_tests.proofs.walking.walk_to_end.Given as goal

abbrev pub invariant-loop-source : goal.invariant-loop-source
invariant-loop-source g l =
    let source = g.S.SortedSource in
    record {
      valid : source.valid l.source;
      cells : source.cells l.source ≡ source.cells l.fn.source;
      steady : source.steady l.source ≡ source.steady l.fn.source;
    }

abbrev pub decreases-loop-source : goal.decreases-loop-source
decreases-loop-source g l = length (g.S.SortedSource.rest l.source)
