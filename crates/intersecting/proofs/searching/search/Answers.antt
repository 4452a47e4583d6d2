use Rattle.std.proofs.Common.{◌≡◌, ◌∙◌, [], length, map, get_or, sym, subst, arith}
use Rattle.std.proofs.Math.Seq.{map-set_same}
use Rattle.std.specs.List.{AllByRecursion}
use Rattle.tablet_model.specs.Cuts.{BehindRow}
use Rattle.intersecting.specs.Firsts.{at_first}
use Rattle.intersecting.specs.Searches.{place, IsRound, IsRowStart}
use Rattle.intersecting.specs.declared.searching.Round.TheVariants.{Row}
use Rattle.iter_contract.proofs.Elements.{all_set, same_length}
use Rattle.intersecting.proofs.Elements.{same_at}
use Rattle.intersecting.proofs.Rounds.{left_none, left_row, row_closer}
use Rattle.intersecting.proofs.searching.search.Goals as goal

pub returns-then-not-branch-clause-search : goal.returns-then-not-branch-clause-search
returns-then-not-branch-clause-search g c =
    let cells = g.S.SortedSource.cells in
    let list = at_first cells [] c.args.sources.now in
    let source = get_or c.meet.new.sources 0 c.index-sources-0.result in
    let p = place c.args.column.now in
    let n = place c.loop-next.column in
    let m = place c.meet.new.column in
    let r = place c.next_row.new.column in
    let found = c.in_ok-next_row-in-Row.field-0 in
    let stays : map cells c.meet.new.sources ≡ map cells c.args.sources.now = c.meet.ensures.cells ∙ c.loop-next.invariant.cells in
    let long : length c.meet.new.sources ≡ length c.args.sources.now = same_length cells c.meet.new.sources c.args.sources.now stays in
    let copy : cells source ≡ list = same_at cells list c.meet.new.sources c.args.sources.now 0 c.index-sources-0.result stays c.requires.same (omega (arith, long, c.requires.some, c.requires.count)) in
    let round : IsRound list c.args.terms.now c.args.without.now c.loop-next.is_behind n m Row = subst (IsRound list c.args.terms.now c.args.without.now c.loop-next.is_behind n m) c.in-Row.is (c.in_ok-meet.ensures.round list (subst (AllByRecursion (λ cells. cells ≡ list)) (sym c.loop-next.invariant.cells) c.requires.same)) in
    let start : IsRowStart list (BehindRow m.key.row) r found = subst (λ list. IsRowStart list (BehindRow m.key.row) r found) copy c.in_ok-next_row-in-Row.ensures.row in
    left_none list c.args.terms.now c.args.without.now c.args.behind p c.requires.some c.loop-next.is_behind n m r found c.if-not-branch.true c.loop-next.invariant.left round start

pub loop-next-smaller : goal.loop-next-smaller
loop-next-smaller g c =
    let cells = g.S.SortedSource.cells in
    let list = at_first cells [] c.args.sources.now in
    let source = get_or c.meet.new.sources 0 c.index-sources-0.result in
    let p = place c.args.column.now in
    let n = place c.loop-next.column in
    let m = place c.meet.new.column in
    let r = place c.next_row.new.column in
    let found = c.in_ok-next_row-in-Row.field-0 in
    let stays : map cells c.meet.new.sources ≡ map cells c.args.sources.now = c.meet.ensures.cells ∙ c.loop-next.invariant.cells in
    let long : length c.meet.new.sources ≡ length c.args.sources.now = same_length cells c.meet.new.sources c.args.sources.now stays in
    let copy : cells source ≡ list = same_at cells list c.meet.new.sources c.args.sources.now 0 c.index-sources-0.result stays c.requires.same (omega (arith, long, c.requires.some, c.requires.count)) in
    let round : IsRound list c.args.terms.now c.args.without.now c.loop-next.is_behind n m Row = subst (IsRound list c.args.terms.now c.args.without.now c.loop-next.is_behind n m) c.in-Row.is (c.in_ok-meet.ensures.round list (subst (AllByRecursion (λ cells. cells ≡ list)) (sym c.loop-next.invariant.cells) c.requires.same)) in
    let start : IsRowStart list (BehindRow m.key.row) r found = subst (λ list. IsRowStart list (BehindRow m.key.row) r found) copy c.in_ok-next_row-in-Row.ensures.row in
    row_closer list c.loop-next.is_behind n m r found round.row start c.if-not-branch.false

pub loop-next-preserved : goal.loop-next-preserved
loop-next-preserved g c =
    let cells = g.S.SortedSource.cells in
    let list = at_first cells [] c.args.sources.now in
    let source = get_or c.meet.new.sources 0 c.index-sources-0.result in
    let p = place c.args.column.now in
    let n = place c.loop-next.column in
    let m = place c.meet.new.column in
    let r = place c.next_row.new.column in
    let found = c.in_ok-next_row-in-Row.field-0 in
    let stays : map cells c.meet.new.sources ≡ map cells c.args.sources.now = c.meet.ensures.cells ∙ c.loop-next.invariant.cells in
    let long : length c.meet.new.sources ≡ length c.args.sources.now = same_length cells c.meet.new.sources c.args.sources.now stays in
    let copy : cells source ≡ list = same_at cells list c.meet.new.sources c.args.sources.now 0 c.index-sources-0.result stays c.requires.same (omega (arith, long, c.requires.some, c.requires.count)) in
    let round : IsRound list c.args.terms.now c.args.without.now c.loop-next.is_behind n m Row = subst (IsRound list c.args.terms.now c.args.without.now c.loop-next.is_behind n m) c.in-Row.is (c.in_ok-meet.ensures.round list (subst (AllByRecursion (λ cells. cells ≡ list)) (sym c.loop-next.invariant.cells) c.requires.same)) in
    let start : IsRowStart list (BehindRow m.key.row) r found = subst (λ list. IsRowStart list (BehindRow m.key.row) r found) copy c.in_ok-next_row-in-Row.ensures.row in
    record {
      valid = all_set g.S.SortedSource.valid c.meet.new.sources 0 c.next_row.new.source c.meet.ensures.valid c.next_row.ensures.valid;
      kept = c.in_ok-next_row-in-Row.ensures.kept;
      cells = map-set_same cells c.meet.new.sources 0 c.next_row.new.source c.index-sources-0.result c.next_row.ensures.cells ∙ stays;
      steady = map-set_same g.S.SortedSource.steady c.meet.new.sources 0 c.next_row.new.source c.index-sources-0.result c.next_row.ensures.steady ∙ c.meet.ensures.steady ∙ c.loop-next.invariant.steady;
      left = left_row list c.args.terms.now c.args.without.now c.args.behind p c.requires.some c.loop-next.is_behind n m r found c.if-not-branch.false c.loop-next.invariant.left round start;
    }
