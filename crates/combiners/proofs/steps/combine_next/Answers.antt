use Rattle.std.specs.Arc.{arc_value}
use Rattle.tablet_model.specs.Cuts.{is_before}
use Rattle.combiners.specs.Gathers.{held_of}
use Rattle.combiners.proofs.Streams.{next_left}
use Rattle.combiners.proofs.steps.combine_next.Goals as goal

pub returns-clause-left : goal.returns-clause-left
returns-clause-left g c =
    let old = c.args.stage.now in
    let new = c.drop_first.new in
    let reducer = g.R.Reducer in
    next_left (λ e. is_before old.range.end e.key) c.deref.result.now (arc_value old.columns) (reducer.reduction old.reducer) (reducer.reduction new.reducer)
    (held_of old.is_held old.column old.time (reducer.joined old.reducer)) (held_of c.in_ok-stage.field-0 new.column new.time (reducer.joined new.reducer))
    (g.S.SortedSource.rest c.args.source.now) (g.S.SortedSource.rest new.source) old.is_sought
    c.deref.ensures c.drop_first.ensures.reduction c.in_ok-stage.ensures.left c.requires.top
