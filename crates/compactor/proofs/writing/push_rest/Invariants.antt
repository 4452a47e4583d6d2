use Rattle.std.proofs.Common.{◌≡◌, ◌++◌, length}
use Rattle.std.specs.List.{AllByRecursion}
use Rattle.compactor.specs.FileValues.{HasShortValue}
use Rattle.compactor.proofs.writing.push_rest.Given as goal

abbrev pub invariant-loop-entry : goal.invariant-loop-entry
invariant-loop-entry g l =
    let source = g.S.SortedSource in
    record {
      valid : source.valid l.source;
      short : AllByRecursion HasShortValue (source.rest l.source);
      list : l.builder ++ source.rest l.source ≡ l.fn.builder ++ source.rest l.fn.source;
    }

abbrev pub decreases-loop-entry : goal.decreases-loop-entry
decreases-loop-entry g l = length (g.S.SortedSource.rest l.source)
