use Rattle.std.proofs.Common.{◌∙◌, ap, sym, not}
use Rattle.tablet_model.specs.Sorted.{from_first}
use Rattle.intersecting.specs.Searches.{is_under, place, under}
use Rattle.intersecting.proofs.Orders.{sought, skipped}
use Rattle.intersecting.proofs.moving.stand.Goals as goal

pub returns-in_ok-skip_document-clause-rest : goal.returns-in_ok-skip_document-clause-rest
returns-in_ok-skip_document-clause-rest g c =
    let p = place c.args.column.now in
    let term = c.args.term.now in
    let cells = g.S.SortedSource.cells c.args.source.now in
    c.in_ok-skip_document.ensures.rest
    ∙ ap (from_first (λ e. not (is_under p term e))) (c.in_ok-seek_document.ensures.rest ∙ sought p term cells (g.met.S.SortedSource.bounded c.args.source.now))
    ∙ skipped p term cells (g.met.S.SortedSource.sorted c.args.source.now)
    ∙ ap (λ behind. under behind p term cells) (sym c.if-behind.true)

pub returns-else-behind-clause-rest : goal.returns-else-behind-clause-rest
returns-else-behind-clause-rest g c =
    let p = place c.args.column.now in
    let term = c.args.term.now in
    let cells = g.S.SortedSource.cells c.args.source.now in
    c.in_ok-seek_document.ensures.rest
    ∙ sought p term cells (g.met.S.SortedSource.bounded c.args.source.now)
    ∙ ap (λ behind. under behind p term cells) (sym c.if-behind.false)
