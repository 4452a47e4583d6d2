use Rattle.std.proofs.Common.{◌≡◌, ◌∙◌, [], true, refl, sym, ap}
use Rattle.std.specs.Arc.{arc_value}
use Rattle.tablet_model.specs.Sorted.{later}
use Rattle.intersecting.specs.Firsts.{at_first, Ascends-first}
use Rattle.intersecting.specs.Searches.{place, IsSearch}
use Rattle.intersecting.proofs.Lefts.{next_left, left_of, was_held, search_by}
use Rattle.intersecting.proofs.steps.intersect_next.Goals as goal

pub returns-clause-left : goal.returns-clause-left
returns-clause-left g c =
    let stage = c.args.stage.now in
    let terms = arc_value stage.terms in
    let without = arc_value stage.without in
    let list = at_first g.S.SortedSource.cells [] c.args.sources.now in
    let p = place stage.column in
    let n = place c.search.new.column in
    let found = c.in_ok-stage.field-0 in
    let held : stage.is_held ≡ true = was_held stage.is_held _ c.requires.top in
    let search : IsSearch list terms without true p n found = search_by list list c.as_slice.result.now terms c.as_slice-2.result.now without true p n found refl (c.as_slice.ensures ∙ c.deref.ensures) (c.as_slice-2.ensures ∙ c.deref-2.ensures) c.in_ok-stage.ensures.search in
    next_left terms without list (Ascends-first g.S.SortedSource.cells g.met.S.SortedSource.sorted c.args.sources.now) c.requires.fits.0 p (c.requires.fits.2 held).1 stage.range.end n found search
    ∙ ap (λ held. later (left_of terms without list held p stage.range.end)) (sym held)
