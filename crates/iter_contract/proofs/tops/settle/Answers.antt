use Rattle.std.proofs.Common.{◌≡◌, ◌+◌, ◌∙◌, ap, ◌++◌, length, drop, arith}
use Rattle.std.proofs.lemmas.List.Sums.{prefix_len-le-length}
use Rattle.std.specs.List.{prefix_len}
use Rattle.tablet_model.specs.Sorted.{first}
use Rattle.iter_contract.specs.Several.{comes_before, has_later_top}
use Rattle.iter_contract.proofs.Moves.{rotated}
use Rattle.iter_contract.proofs.tops.settle.Goals as goal

inside : goal.slice_bounds-rotate_left-end
inside g c =
    let rest = g.S.SortedSource.rest in
    let most = prefix_len-le-length (has_later_top rest c.in-Some.first.now) c.in-Some.others.now in
    let long = ap length c.in-Some.ensures.cases.0 in
    let passed : c.count_ahead-passed.result ≡ prefix_len (has_later_top rest c.in-Some.first.now) c.in-Some.others.now =
    c.count_ahead-passed.ensures ∙ ap (λ o. prefix_len (λ s. comes_before (first (rest s)) o) c.in-Some.others.now) c.top.ensures in
    omega (arith, most, long, passed)

pub overflow_add-passed : goal.overflow_add-passed
overflow_add-passed g c = omega (arith, inside g c, c.well_formed)

pub slice_bounds-rotate_left-end : goal.slice_bounds-rotate_left-end
slice_bounds-rotate_left-end = inside

pub returns-in-Some : goal.returns-in-Some
returns-in-Some g c =
    let rest = g.S.SortedSource.rest in
    let passed : c.count_ahead-passed.result ≡ prefix_len (has_later_top rest c.in-Some.first.now) c.in-Some.others.now =
    c.count_ahead-passed.ensures ∙ ap (λ o. prefix_len (λ s. comes_before (first (rest s)) o) c.in-Some.others.now) c.top.ensures in
    ap (λ l. l ++ drop (c.count_ahead-passed.result + 1) c.args.sources.now) c.rotate_left.ensures.after
    ∙ rotated rest c.args.sources.now c.in-Some.others.now c.in-Some.first.now c.count_ahead-passed.result c.in-Some.ensures.cases.0 passed
