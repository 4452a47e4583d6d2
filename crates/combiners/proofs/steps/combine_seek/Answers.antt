use Rattle.std.specs.Arc.{arc_value}
use Rattle.cell_key.specs.Ranges.{span_of}
use Rattle.combiners.specs.Gathers.{held_of}
use Rattle.combiners.proofs.Streams.{seek_read, seek_left}
use Rattle.combiners.proofs.steps.combine_seek.Goals as goal

pub drop_before-requires-clause-read : goal.drop_before-requires-clause-read
drop_before-requires-clause-read g c =
    seek_read c.deref.result.now (arc_value c.args.stage.now.columns) (g.R.Reducer.reduction c.args.stage.now.reducer) _
    (g.S.SortedSource.cells c.args.source.now) (g.S.SortedSource.rest c.seek.new.self) c.deref.ensures c.in_ok-seek.ensures.rest c.requires.fits.0

pub returns-clause-left : goal.returns-clause-left
returns-clause-left g c =
    let old = c.args.stage.now in
    let new = c.drop_before.new in
    let reducer = g.R.Reducer in
    let source = g.S.SortedSource in
    seek_left c.deref.result.now (arc_value old.columns) (reducer.reduction old.reducer) (reducer.reduction new.reducer)
    (held_of c.in_ok-stage.field-0 new.column new.time (reducer.joined new.reducer))
    (span_of c.args.range.now) c.set.new.self (span_of c.whole_columns.result)
    (source.rest new.source) (source.rest c.seek.new.self) (source.cells c.args.source.now)
    (g.met.S.SortedSource.sorted c.args.source.now) (g.met.S.SortedSource.bounded c.args.source.now) c.requires.fits.1
    c.deref.ensures c.drop_before.ensures.reduction c.set.ensures c.whole_columns.ensures c.in_ok-seek.ensures.rest c.in_ok-stage.ensures.left
