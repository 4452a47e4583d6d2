use Rattle.std.proofs.Common.{◌≡◌, length, true}
use Rattle.combiners.specs.Gathers.{combined_from, AreRead, held_of, is_whole}
use Rattle.combiners.proofs.gather.gather.Given as goal

abbrev pub invariant-loop-entry : goal.invariant-loop-entry
invariant-loop-entry g l =
    let source = g.S.SortedSource in
    let reducer = g.R.Reducer in
    record {
      valid : source.valid l.source;
      cells : source.cells l.source ≡ source.cells l.fn.source;
      steady : source.steady l.source ≡ source.steady l.fn.source;
      reduction : reducer.reduction l.reducer ≡ reducer.reduction l.fn.reducer;
      steady_reducer : reducer.steady l.reducer ≡ reducer.steady l.fn.reducer;
      whole : is_whole true l.column (reducer.joined l.reducer) ≡ true;
      read : AreRead l.columns (reducer.reduction l.fn.reducer) (source.rest l.source);
      left : combined_from l.columns (reducer.reduction l.fn.reducer) (held_of true l.column l.time (reducer.joined l.reducer)) (source.rest l.source)
          ≡ combined_from l.columns (reducer.reduction l.fn.reducer) (held_of true l.column l.time (reducer.joined l.fn.reducer)) (source.rest l.fn.source);
    }

abbrev pub decreases-loop-entry : goal.decreases-loop-entry
decreases-loop-entry g l = length (g.S.SortedSource.rest l.source)
