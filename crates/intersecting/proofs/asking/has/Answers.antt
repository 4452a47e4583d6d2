use Rattle.std.proofs.Common.{sym, ap, ◌∙◌}
use Rattle.intersecting.specs.Searches.{place}
use Rattle.intersecting.proofs.Advances.{is_here, not_here, has_is}
use Rattle.intersecting.proofs.asking.has.Goals as goal

pub returns-in-Here-clause-answer : goal.returns-in-Here-clause-answer
returns-in-Here-clause-answer g c =
    sym (has_is (place c.args.column.now) c.args.term.now (g.S.SortedSource.cells c.args.source.now) (g.met.S.SortedSource.sorted c.args.source.now) c.in_ok-look.field-0 c.in_ok-look.ensures.step ∙ ap is_here c.in-Here.is)

pub returns-in_default-clause-answer : goal.returns-in_default-clause-answer
returns-in_default-clause-answer g c =
    sym (has_is (place c.args.column.now) c.args.term.now (g.S.SortedSource.cells c.args.source.now) (g.met.S.SortedSource.sorted c.args.source.now) c.in_ok-look.field-0 c.in_ok-look.ensures.step ∙ not_here c.in_ok-look.field-0 c.in_default.not-Here)
