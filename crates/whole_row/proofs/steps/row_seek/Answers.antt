use Rattle.cell_key.specs.Ranges.{span_of}
use Rattle.whole_row.specs.RowPasses.{held_of}
use Rattle.whole_row.proofs.Seeks.{seek_left}
use Rattle.whole_row.proofs.steps.row_seek.Goals as goal

pub returns-clause-left : goal.returns-clause-left
returns-clause-left g c =
    let new = c.drop_before.new in
    let source = g.S.SortedSource in
    seek_left (held_of c.in_ok-stage.field-0 new.column new.buf) (span_of c.args.range.now) c.set.new.self (span_of c.all_rows_from.result)
    (source.rest new.source) (source.rest c.seek.new.self) (source.cells c.args.source.now) (g.met.S.SortedSource.sorted c.args.source.now)
    c.set.ensures c.all_rows_from.ensures c.in_ok-seek.ensures.rest c.in_ok-stage.ensures.left
