use Rattle.std.proofs.Common.{◌≡◌, length, true}
use Rattle.whole_row.specs.RowPasses.{held_of, rows_from}
use Rattle.whole_row.proofs.gather.gather.Given as goal

abbrev pub invariant-loop-entry : goal.invariant-loop-entry
invariant-loop-entry g l =
    let source = g.S.SortedSource in
    record {
      valid : source.valid l.source;
      cells : source.cells l.source ≡ source.cells l.fn.source;
      steady : source.steady l.source ≡ source.steady l.fn.source;
      left : rows_from (held_of true l.column l.buf) (source.rest l.source) ≡ rows_from (held_of true l.column l.fn.buf) (source.rest l.fn.source);
    }

abbrev pub decreases-loop-entry : goal.decreases-loop-entry
decreases-loop-entry g l = length (g.S.SortedSource.rest l.source)
