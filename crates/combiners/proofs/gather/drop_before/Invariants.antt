use Rattle.std.proofs.Common.{◌≡◌, length, true, None}
use Rattle.tablet_model.specs.Cell.{Cell}
use Rattle.tablet_model.specs.Cuts.{is_behind}
use Rattle.tablet_model.specs.Sorted.{from_first}
use Rattle.cell_key.specs.Ranges.{cut_of}
use Rattle.combiners.specs.Gathers.{combined_from, AreRead, held_of, is_whole, is_settled}
use Rattle.combiners.proofs.gather.drop_before.Given as goal

abbrev pub invariant-loop-entry : goal.invariant-loop-entry
invariant-loop-entry g l =
    let source = g.S.SortedSource in
    let reducer = g.R.Reducer in
    let passes = λ (e : Cell). is_behind (cut_of l.start) e.key in
    record {
      valid : source.valid l.source;
      cells : source.cells l.source ≡ source.cells l.fn.source;
      steady : source.steady l.source ≡ source.steady l.fn.source;
      reduction : reducer.reduction l.reducer ≡ reducer.reduction l.fn.reducer;
      steady_reducer : reducer.steady l.reducer ≡ reducer.steady l.fn.reducer;
      whole : is_whole l.is_held l.column (reducer.joined l.reducer) ≡ true;
      read : AreRead l.columns (reducer.reduction l.fn.reducer) (source.rest l.source);
      settled : is_settled l.columns (held_of l.is_held l.column l.time (reducer.joined l.reducer)) (source.rest l.source) ≡ true;
      left : from_first passes (combined_from l.columns (reducer.reduction l.fn.reducer) (held_of l.is_held l.column l.time (reducer.joined l.reducer)) (source.rest l.source))
          ≡ from_first passes (combined_from l.columns (reducer.reduction l.fn.reducer) None (source.rest l.fn.source));
    }

abbrev pub decreases-loop-entry : goal.decreases-loop-entry
decreases-loop-entry g l = length (combined_from l.columns (g.R.Reducer.reduction l.fn.reducer) (held_of l.is_held l.column l.time (g.R.Reducer.joined l.reducer)) (g.S.SortedSource.rest l.source))
