use Rattle.std.proofs.Common.{not, sym, ap, ◌∙◌}
use Rattle.std.specs.Prelude.{option_map}
use Rattle.cell_key.specs.Ranges.{cut_of}
use Rattle.cell_key.specs.Views.{key_of}
use Rattle.tablet_model.specs.Cuts.{is_behind}
use Rattle.intersecting.specs.Searches.{lies_from, place}
use Rattle.intersecting.proofs.Beginnings.{begins_among}
use Rattle.intersecting.proofs.beginning.begin.Goals as goal

pub returns-in-Some-clause-left : goal.returns-in-Some-clause-left
returns-in-Some-clause-left g c = λ d term has shaped.
    let cut = cut_of c.args.start in
    let b = not c.lies_behind.result in
    begins_among cut (key_of c.in-Some.key) (sym c.key_among.ensures ∙ ap (option_map key_of) c.in-Some.is) b (ap not (c.lies_behind.ensures ∙ ap (is_behind cut) c.document_key.ensures)) d shaped
    ∙ ap (λ o. lies_from b (place o) d) (sym c.set.ensures)
