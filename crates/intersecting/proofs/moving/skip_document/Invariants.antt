use Rattle.std.proofs.Common.{◌≡◌, length, not}
use Rattle.tablet_model.specs.Cell.{Cell}
use Rattle.tablet_model.specs.Sorted.{from_first}
use Rattle.intersecting.specs.Searches.{is_under, place}
use Rattle.intersecting.proofs.moving.skip_document.Given as goal

abbrev pub invariant-loop-entry : goal.invariant-loop-entry
invariant-loop-entry g l =
    let source = g.S.SortedSource in
    let others = λ (e : Cell). not (is_under (place l.column) l.term e) in
    record {
      valid : source.valid l.source;
      cells : source.cells l.source ≡ source.cells l.fn.source;
      steady : source.steady l.source ≡ source.steady l.fn.source;
      rest : from_first others (source.rest l.source) ≡ from_first others (source.rest l.fn.source);
    }

abbrev pub decreases-loop-entry : goal.decreases-loop-entry
decreases-loop-entry g l = length (g.S.SortedSource.rest l.source)
