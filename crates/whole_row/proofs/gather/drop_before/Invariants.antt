use Rattle.std.proofs.Common.{◌≡◌, length, true, None}
use Rattle.tablet_model.specs.Cell.{Cell}
use Rattle.tablet_model.specs.Cuts.{is_behind}
use Rattle.tablet_model.specs.Sorted.{from_first}
use Rattle.cell_key.specs.Ranges.{cut_of}
use Rattle.whole_row.specs.RowPasses.{held_of, is_settled, is_whole, rows_from}
use Rattle.whole_row.proofs.gather.drop_before.Given as goal

abbrev pub invariant-loop-entry : goal.invariant-loop-entry
invariant-loop-entry g l =
    let source = g.S.SortedSource in
    let passes = λ (e : Cell). is_behind (cut_of l.start) e.key in
    record {
      valid : source.valid l.source;
      cells : source.cells l.source ≡ source.cells l.fn.source;
      steady : source.steady l.source ≡ source.steady l.fn.source;
      whole : is_whole l.is_held l.column ≡ true;
      settled : is_settled (held_of l.is_held l.column l.buf) (source.rest l.source) ≡ true;
      left : from_first passes (rows_from (held_of l.is_held l.column l.buf) (source.rest l.source)) ≡ from_first passes (rows_from None (source.rest l.fn.source));
    }

abbrev pub decreases-loop-entry : goal.decreases-loop-entry
decreases-loop-entry g l = length (rows_from (held_of l.is_held l.column l.buf) (g.S.SortedSource.rest l.source))
