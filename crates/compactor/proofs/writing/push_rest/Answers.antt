use Rattle.std.proofs.Common.{ap, sym, subst, ◌∙◌, option_map}
use Rattle.tablet_model.specs.Order.{above}
use Rattle.tablet_model.specs.Sorted.{Ascends}
use Rattle.cell_key.specs.Views.{cell_of}
use Rattle.compactor.proofs.Written.{next_fits}
use Rattle.compactor.proofs.writing.push_rest.Goals as goal

pub push-requires-clause-order : goal.push-requires-clause-order
push-requires-clause-order g c =
    next_fits c.loop-entry.builder (g.S.SortedSource.rest c.loop-entry.source) (cell_of c.in-Some.entry)
    (subst (Ascends above) (sym c.loop-entry.invariant.list) c.requires.order) (ap (option_map cell_of) (sym c.in-Some.is) ∙ c.top.ensures)
