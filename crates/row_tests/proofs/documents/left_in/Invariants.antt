use Rattle.std.proofs.Common.{length}
use Rattle.row_tests.proofs.documents.left_in.Given as goal

abbrev pub invariant-loop-entry : goal.invariant-loop-entry
invariant-loop-entry g l = g.S.SortedSource.valid l.source

abbrev pub decreases-loop-entry : goal.decreases-loop-entry
decreases-loop-entry g l = length (g.S.SortedSource.rest l.source)
