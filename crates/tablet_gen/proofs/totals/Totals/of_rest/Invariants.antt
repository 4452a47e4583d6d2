use Rattle.std.proofs.Common.{◌≡◌, ◌+◌, length}
use Rattle.tablet_gen.specs.Totals.{total_of}
use Rattle.tablet_gen.proofs.totals.Totals.of_rest.Given as goal

abbrev pub invariant-loop-entry : goal.invariant-loop-entry
invariant-loop-entry g l =
    let source = g.S.SortedSource in
    record {
      valid : source.valid l.source;
      entries : l.totals.entries + length (source.rest l.source) ≡ length (source.rest l.fn.source);
      total : l.totals.total + total_of (source.rest l.source) ≡ total_of (source.rest l.fn.source);
    }

abbrev pub decreases-loop-entry : goal.decreases-loop-entry
decreases-loop-entry g l = length (g.S.SortedSource.rest l.source)
