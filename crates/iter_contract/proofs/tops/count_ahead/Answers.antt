use Rattle.std.proofs.Common.{◌≡◌, ◌∙◌, true, false, sym, ap, option_map, get_or, zero-add, arith}
use Rattle.std.proofs.lemmas.List.Sums.{prefix_len-drop_all, prefix_len-drop_no, prefix_len-drop_yes}
use Rattle.tablet_model.specs.Sorted.{first}
use Rattle.cell_key.specs.Views.{cell_of}
use Rattle.iter_contract.specs.Several.{comes_before}
use Rattle.iter_contract.proofs.tops.count_ahead.Goals as goal

pub loop-place-init : goal.loop-place-init
loop-place-init g c = zero-add _

pub loop-place-preserved : goal.loop-place-preserved
loop-place-preserved g c =
    let rest = g.S.SortedSource.rest in
    let sources = c.args.sources.now in
    let source = c.index-sources-place.result in
    let top = option_map cell_of c.args.top in
    let passes : comes_before (first (rest (get_or sources c.loop-place.place source))) top ≡ true =
    ap (λ s. comes_before (first (rest s)) top) (sym c.index-sources-place.is) ∙ ap (λ o. comes_before o top) (sym c.top.ensures) ∙ sym c.comes_before.ensures ∙ c.if-not-comes_before.false in
    let step = prefix_len-drop_yes (λ s. comes_before (first (rest s)) top) sources c.loop-place.place source c.loop-place-test.true passes in
    omega (arith, step, c.loop-place.invariant)

pub returns-then-not-comes_before : goal.returns-then-not-comes_before
returns-then-not-comes_before g c =
    let rest = g.S.SortedSource.rest in
    let sources = c.args.sources.now in
    let source = c.index-sources-place.result in
    let top = option_map cell_of c.args.top in
    let fails : comes_before (first (rest (get_or sources c.loop-place.place source))) top ≡ false =
    ap (λ s. comes_before (first (rest s)) top) (sym c.index-sources-place.is) ∙ ap (λ o. comes_before o top) (sym c.top.ensures) ∙ sym c.comes_before.ensures ∙ c.if-not-comes_before.true in
    let stop = prefix_len-drop_no (λ s. comes_before (first (rest s)) top) sources c.loop-place.place source c.loop-place-test.true fails in
    omega (arith, stop, c.loop-place.invariant)

pub returns : goal.returns
returns g c =
    let test = λ (s : g.row.S.Denot). comes_before (first (g.S.SortedSource.rest s)) (option_map cell_of c.args.top) in
    let all = prefix_len-drop_all test c.args.sources.now c.loop-place.place c.loop-place-test.false in
    omega (arith, all, c.loop-place.invariant)
