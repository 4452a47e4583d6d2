use Rattle.std.proofs.Common.{◌≡◌, ◌∙◌, [], true, get_or, refl, sym, ap, subst, arith}
use Rattle.std.proofs.Math.Seq.{map-set_same}
use Rattle.std.specs.Arc.{arc_value}
use Rattle.std.specs.Prelude.{slice_set}
use Rattle.tablet_model.specs.Rows.{has_term}
use Rattle.cell_key.specs.Ranges.{span_of}
use Rattle.intersecting.specs.Firsts.{at_first}
use Rattle.intersecting.specs.Searches.{place, left_from, IsSearch}
use Rattle.intersecting.proofs.Elements.{first_same, same_at}
use Rattle.intersecting.proofs.Lefts.{seek_left, seek_nothing, search_by}
use Rattle.intersecting.proofs.steps.intersect_seek.Goals as goal

pub returns-in_ok-stage-clause-left : goal.returns-in_ok-stage-clause-left
returns-in_ok-stage-clause-left g c =
    let cells = g.S.SortedSource.cells in
    let stage = c.args.stage.now in
    let terms = arc_value stage.terms in
    let without = arc_value stage.without in
    let sources = c.args.sources.now in
    let list = at_first cells [] sources in
    let source = get_or sources 0 c.index-sources-0.result in
    let p = place c.begin.new.column in
    let n = place c.search.new.column in
    let found = c.in_ok-stage.field-0 in
    let copy : cells source ≡ list = same_at cells list sources sources 0 c.index-sources-0.result refl c.requires.same (omega (arith, c.requires.fits.0, c.requires.fits.1)) in
    let stays : at_first cells [] (slice_set sources 0 c.begin.new.source) ≡ list = first_same cells [] (slice_set sources 0 c.begin.new.source) sources (map-set_same cells sources 0 c.begin.new.source c.index-sources-0.result c.begin.ensures.cells) in
    let search : IsSearch list terms without c.in-Some.behind p n found = search_by (at_first cells [] (slice_set sources 0 c.begin.new.source)) list c.as_slice.result.now terms c.as_slice-in-Some.result.now without c.in-Some.behind p n found stays (c.as_slice.ensures ∙ c.deref.ensures) (c.as_slice-in-Some.ensures ∙ c.deref-in-Some.ensures) c.in_ok-stage.ensures.search in
    seek_left terms without list c.requires.fits.0 (span_of c.args.range.now) c.set.new.self c.in-Some.behind p n found c.set.ensures
    (λ d term has shaped. c.in_ok-behind.ensures.left d term (subst (λ l. has_term l d term ≡ true) (sym copy) has) shaped ∙ ap (λ b. left_from b p d) c.in-Some.is) search

pub returns-in_default-clause-left : goal.returns-in_default-clause-left
returns-in_default-clause-left g c =
    let cells = g.S.SortedSource.cells in
    let stage = c.args.stage.now in
    let sources = c.args.sources.now in
    let list = at_first cells [] sources in
    let p = place c.begin.new.column in
    let copy : cells (get_or sources 0 c.index-sources-0.result) ≡ list = same_at cells list sources sources 0 c.index-sources-0.result refl c.requires.same (omega (arith, c.requires.fits.0, c.requires.fits.1)) in
    seek_nothing (arc_value stage.terms) (arc_value stage.without) list c.requires.fits.0 (span_of c.args.range.now)
    (λ d term has shaped. c.in_ok-behind.ensures.left d term (subst (λ l. has_term l d term ≡ true) (sym copy) has) shaped ∙ ap (λ b. left_from b p d) c.in_default.is)
