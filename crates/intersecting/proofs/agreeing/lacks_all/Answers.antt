use Rattle.std.proofs.Common.{◌≡◌, ◌+◌, ◌<◌, ◌||◌, ◌∙◌, true, false, not, length, drop, get_or, sym, ap, arith}
use Rattle.std.proofs.Math.Seq.{map-set_same}
use Rattle.std.specs.List.{list_all, list_any}
use Rattle.tablet_model.specs.Rows.{has_term}
use Rattle.intersecting.specs.Searches.{place}
use Rattle.iter_contract.proofs.Elements.{all_set, same_length, test_read}
use Rattle.intersecting.proofs.Elements.{same_at}
use Rattle.intersecting.proofs.Agreements.{any_step}
use Rattle.intersecting.proofs.agreeing.lacks_all.Goals as goal

pub returns-in_err-has-clause-cells : goal.returns-in_err-has-clause-cells
returns-in_err-has-clause-cells g c =
    map-set_same g.S.SortedSource.cells c.loop-i.sources (c.args.from + c.loop-i.i) c.has.new.source c.index-sources-from.result c.has.ensures.cells ∙ c.loop-i.invariant.cells

pub returns-then-branch-clause-cells : goal.returns-then-branch-clause-cells
returns-then-branch-clause-cells g c =
    map-set_same g.S.SortedSource.cells c.loop-i.sources (c.args.from + c.loop-i.i) c.has.new.source c.index-sources-from.result c.has.ensures.cells ∙ c.loop-i.invariant.cells

pub returns-in_err-has-clause-steady : goal.returns-in_err-has-clause-steady
returns-in_err-has-clause-steady g c =
    map-set_same g.S.SortedSource.steady c.loop-i.sources (c.args.from + c.loop-i.i) c.has.new.source c.index-sources-from.result c.has.ensures.steady ∙ c.loop-i.invariant.steady

pub returns-in_err-has-clause-works : goal.returns-in_err-has-clause-works
returns-in_err-has-clause-works g c all =
    let steady = g.S.SortedSource.steady in
    let sources = c.loop-i.sources in
    let i = c.args.from + c.loop-i.i in
    let long = same_length steady sources c.args.sources.now c.loop-i.invariant.steady in
    let inside : i < length sources = omega (arith, long, c.loop-i-test.true, c.requires.count) in
    let here = test_read steady sources i c.index-sources-from.result (ap (list_all (λ b. b)) c.loop-i.invariant.steady ∙ all) inside in
    grind (arith, here, c.in_err-has.ensures.works, c.in_err-has.is)

pub returns-then-branch-clause-steady : goal.returns-then-branch-clause-steady
returns-then-branch-clause-steady g c =
    map-set_same g.S.SortedSource.steady c.loop-i.sources (c.args.from + c.loop-i.i) c.has.new.source c.index-sources-from.result c.has.ensures.steady ∙ c.loop-i.invariant.steady

pub returns-then-branch-clause-answer : goal.returns-then-branch-clause-answer
returns-then-branch-clause-answer g c = λ list same.
    let cells = g.S.SortedSource.cells in
    let i = c.args.from + c.loop-i.i in
    let name = get_or c.args.terms.now c.loop-i.i c.index-terms-i.result in
    let p = place c.args.column.now in
    let long : length c.loop-i.sources ≡ length c.args.sources.now = same_length cells c.loop-i.sources c.args.sources.now c.loop-i.invariant.cells in
    let copy : cells (get_or c.loop-i.sources i c.index-sources-from.result) ≡ list = same_at cells list c.loop-i.sources c.args.sources.now i c.index-sources-from.result c.loop-i.invariant.cells same (omega arith) in
    let yes : has_term list p name ≡ true = sym (c.in_ok-has.ensures.answer ∙ ap (λ l. has_term l p c.bytes.result.now) copy ∙ ap (has_term list p) (c.bytes.ensures ∙ c.index-terms-i.is)) ∙ c.if-branch.true in
    ap not (sym (sym (c.loop-i.invariant.left list same) ∙ any_step (has_term list p) c.args.terms.now c.loop-i.i c.index-terms-i.result c.loop-i-test.true ∙ ap (λ b. b || list_any (has_term list p) (drop (c.loop-i.i + 1) c.args.terms.now)) yes))

pub loop-i-preserved : goal.loop-i-preserved
loop-i-preserved g c =
    let source = g.S.SortedSource in
    let i = c.args.from + c.loop-i.i in
    let name = get_or c.args.terms.now c.loop-i.i c.index-terms-i.result in
    let p = place c.args.column.now in
    let long : length c.loop-i.sources ≡ length c.args.sources.now = same_length source.cells c.loop-i.sources c.args.sources.now c.loop-i.invariant.cells in
    record {
      valid = all_set source.valid c.loop-i.sources i c.has.new.source c.loop-i.invariant.valid c.has.ensures.valid;
      cells = map-set_same source.cells c.loop-i.sources i c.has.new.source c.index-sources-from.result c.has.ensures.cells ∙ c.loop-i.invariant.cells;
      steady = map-set_same source.steady c.loop-i.sources i c.has.new.source c.index-sources-from.result c.has.ensures.steady ∙ c.loop-i.invariant.steady;
      left = λ list same.
          let copy : source.cells (get_or c.loop-i.sources i c.index-sources-from.result) ≡ list = same_at source.cells list c.loop-i.sources c.args.sources.now i c.index-sources-from.result c.loop-i.invariant.cells same (omega arith) in
          let lacks : has_term list p name ≡ false = sym (c.in_ok-has.ensures.answer ∙ ap (λ l. has_term l p c.bytes.result.now) copy ∙ ap (has_term list p) (c.bytes.ensures ∙ c.index-terms-i.is)) ∙ c.if-branch.false in
          ap (λ b. b || list_any (has_term list p) (drop (c.loop-i.i + 1) c.args.terms.now)) (sym lacks)
          ∙ sym (any_step (has_term list p) c.args.terms.now c.loop-i.i c.index-terms-i.result c.loop-i-test.true)
          ∙ c.loop-i.invariant.left list same;
    }
