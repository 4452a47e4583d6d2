use Rattle.std.proofs.Common.{sym, ap, ◌∙◌}
use Rattle.std.specs.Prelude.{option_map}
use Rattle.cell_key.specs.Views.{cell_of}
use Rattle.intersecting.specs.Searches.{place}
use Rattle.intersecting.proofs.RowStarts.{no_row, row_start}
use Rattle.intersecting.proofs.moving.keep_row.Goals as goal

pub returns-in_default-clause-row : goal.returns-in_default-clause-row
returns-in_default-clause-row g c = λ cut border rest.
    no_row (g.S.SortedSource.cells c.args.source.now) (g.met.S.SortedSource.sorted c.args.source.now) cut border (place c.args.column.now) (g.S.SortedSource.rest c.args.source.now) rest (sym c.top.ensures ∙ ap (option_map cell_of) c.in_default.is)

pub returns-clause-row : goal.returns-clause-row
returns-clause-row g c = λ cut border rest.
    row_start (g.S.SortedSource.cells c.args.source.now) (g.met.S.SortedSource.sorted c.args.source.now) cut border (place c.set.new.self) (cell_of c.in-Some.entry) (g.S.SortedSource.rest c.args.source.now) rest (sym c.top.ensures ∙ ap (option_map cell_of) c.in-Some.is)
    (ap (λ o. (place o).key.row) c.set.ensures) (ap (λ o. (place o).key.qualifier) c.set.ensures)
