use Rattle.std.proofs.Common.{sym}
use Rattle.intersecting.specs.Searches.{place}
use Rattle.intersecting.proofs.Advances.{too_long}
use Rattle.intersecting.proofs.asking.look.Goals as goal

pub returns-then-term-gt-MAX_KEY_PART-clause-step : goal.returns-then-term-gt-MAX_KEY_PART-clause-step
returns-then-term-gt-MAX_KEY_PART-clause-step g c =
    sym (too_long c.args.behind (place c.args.column.now) c.args.term.now (g.S.SortedSource.cells c.args.source.now) (g.met.S.SortedSource.bounded c.args.source.now) c.if-term-gt-MAX_KEY_PART.true)
