use Rattle.std.proofs.Common.{◌<◌, ◌∙◌, ap, sym, subst, set, length, map, arith}
use Rattle.std.proofs.Math.Seq.{map-set_same}
use Rattle.std.specs.List.{AllByRecursion, list_all}
use Rattle.tablet_model.specs.Sum.{sum_all}
use Rattle.iter_contract.specs.Several.{all_steady, AreOrdered}
use Rattle.iter_contract.proofs.Elements.{all_read, all_set, test_read}
use Rattle.iter_contract.proofs.FirstTops.{some_of_first, some_source}
use Rattle.iter_contract.proofs.Moves.{settled_all, settled_steady, settled_sum, stepped_ordered, stepped_sum}
use Rattle.iter_contract.proofs.several.step_first.Goals as goal

pub bounds-sources-0 : goal.bounds-sources-0
bounds-sources-0 g c = some_source g.S.SortedSource.rest c.args.sources.now c.requires.top

pub next-requires-clause-valid : goal.next-requires-clause-valid
next-requires-clause-valid g c =
    all_read g.S.SortedSource.valid c.args.sources.now 0 c.index-sources-0.result c.requires.valid (some_source g.S.SortedSource.rest c.args.sources.now c.requires.top)

pub next-requires-clause-top : goal.next-requires-clause-top
next-requires-clause-top g c =
    let rest = g.S.SortedSource.rest in
    subst (λ s. 0 < length (rest s)) c.index-sources-0.is (some_of_first rest c.args.sources.now c.index-sources-0.result c.requires.order c.requires.top c.index-sources-0.is)

pub returns-in_err-next-clause-works : goal.returns-in_err-next-clause-works
returns-in_err-next-clause-works g c all =
    let sources = c.args.sources.now in
    let inside = some_source g.S.SortedSource.rest sources c.requires.top in
    let here = test_read g.S.SortedSource.steady sources 0 c.index-sources-0.result all inside in
    grind (arith, here, c.in_err-next.ensures.works, c.in_err-next.is)

pub returns-clause-cells : goal.returns-clause-cells
returns-clause-cells g c =
    let source = g.S.SortedSource in
    let sources = c.args.sources.now in
    ap (λ l. sum_all (map source.cells l)) c.settle.ensures
    ∙ settled_sum source.rest source.cells (set sources 0 c.next.new.self)
    ∙ ap sum_all (map-set_same source.cells sources 0 c.next.new.self c.index-sources-0.result c.in_ok-next.ensures.cells)

pub returns-clause-steady : goal.returns-clause-steady
returns-clause-steady g c =
    let source = g.S.SortedSource in
    let sources = c.args.sources.now in
    ap (all_steady source.steady) c.settle.ensures
    ∙ settled_steady source.rest source.steady (set sources 0 c.next.new.self)
    ∙ ap (list_all (λ b. b)) (map-set_same source.steady sources 0 c.next.new.self c.index-sources-0.result c.in_ok-next.ensures.steady)

pub returns-clause-valid : goal.returns-clause-valid
returns-clause-valid g c =
    let source = g.S.SortedSource in
    let sources = c.args.sources.now in
    subst (AllByRecursion source.valid) (sym c.settle.ensures)
    (settled_all source.rest source.valid (set sources 0 c.next.new.self) (all_set source.valid sources 0 c.next.new.self c.requires.valid c.in_ok-next.ensures.valid))

pub returns-clause-order : goal.returns-clause-order
returns-clause-order g c =
    let rest = g.S.SortedSource.rest in
    let sources = c.args.sources.now in
    let inside = some_source rest sources c.requires.top in
    subst (λ l. AreOrdered (map rest l)) (sym c.settle.ensures)
    (stepped_ordered rest sources c.next.new.self c.index-sources-0.result c.requires.order inside c.in_ok-next.ensures.rest)

pub returns-clause-rest : goal.returns-clause-rest
returns-clause-rest g c =
    let rest = g.S.SortedSource.rest in
    let sources = c.args.sources.now in
    ap (λ l. sum_all (map rest l)) c.settle.ensures
    ∙ stepped_sum rest sources c.next.new.self c.index-sources-0.result c.requires.order c.requires.top c.in_ok-next.ensures.rest
