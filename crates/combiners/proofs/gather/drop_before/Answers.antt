use Rattle.std.proofs.Common.{◌∙◌, subst, rules}
use Rattle.tablet_model.specs.Cuts.{is_behind}
use Rattle.cell_key.specs.Ranges.{cut_of}
use Rattle.cell_key.specs.Views.{cell_of}
use Rattle.combiners.specs.Gathers.{AreRead, held_of}
use Rattle.combiners.proofs.Firsts.{over_combined, at_combined, fewer_combined}
use Rattle.combiners.proofs.gather.drop_before.Goals as goal

pub loop-entry-preserved : goal.loop-entry-preserved
loop-entry-preserved g c =
    let source = g.S.SortedSource in
    let reducer = g.R.Reducer in
    let old = c.loop-entry in
    let new = c.drop_first.new in
    let ensures = c.drop_first.ensures in
    let dropped = c.in_ok-is_held-2.ensures in
    record {
      valid = ensures.valid;
      cells = ensures.cells ∙ old.invariant.cells;
      steady = ensures.steady ∙ old.invariant.steady;
      reduction = ensures.reduction ∙ old.invariant.reduction;
      steady_reducer = ensures.steady_reducer ∙ old.invariant.steady_reducer;
      whole = dropped.whole;
      read = subst (λ r. AreRead c.args.columns.now r (source.rest new.source)) old.invariant.reduction dropped.read;
      settled = dropped.settled;
      left = over_combined (λ e. is_behind (cut_of c.args.start.now) e.key) c.args.columns.now (reducer.reduction old.reducer) (reducer.reduction c.args.reducer.now)
          (held_of old.is_held old.column old.time (reducer.joined old.reducer)) (held_of c.in_ok-is_held-2.is_held new.column new.time (reducer.joined new.reducer))
          (source.rest old.source) (source.rest new.source) _ (cell_of c.in-Some.entry)
          old.invariant.reduction (search rules) c.lies_behind.ensures c.if-lies_behind.false dropped.left old.invariant.left;
    }

pub loop-entry-smaller : goal.loop-entry-smaller
loop-entry-smaller g c =
    let source = g.S.SortedSource in
    let reducer = g.R.Reducer in
    let old = c.loop-entry in
    let new = c.drop_first.new in
    fewer_combined c.args.columns.now (reducer.reduction old.reducer) (reducer.reduction c.args.reducer.now)
    (held_of old.is_held old.column old.time (reducer.joined old.reducer)) (held_of c.in_ok-is_held-2.is_held new.column new.time (reducer.joined new.reducer))
    (source.rest old.source) (source.rest new.source) (cell_of c.in-Some.entry)
    old.invariant.reduction (search rules) c.in_ok-is_held-2.ensures.left

pub returns-then-lies_behind-clause-left : goal.returns-then-lies_behind-clause-left
returns-then-lies_behind-clause-left g c =
    let reducer = g.R.Reducer in
    let old = c.loop-entry in
    at_combined (λ e. is_behind (cut_of c.args.start.now) e.key) c.args.columns.now (reducer.reduction old.reducer) (reducer.reduction c.args.reducer.now)
    (held_of old.is_held old.column old.time (reducer.joined old.reducer))
    (g.S.SortedSource.rest old.source) _ (cell_of c.in-Some.entry)
    old.invariant.reduction (search rules) c.lies_behind.ensures c.if-lies_behind.true old.invariant.left
