use Rattle.std.proofs.Common.{◌≡◌, ◌+◌, ◌<◌, ◌∙◌, false, length, get_or, sym, ap, subst, arith}
use Rattle.std.proofs.Math.Seq.{map-set_same}
use Rattle.intersecting.specs.Searches.{place, IsAdvance}
use Rattle.std.specs.List.{list_all}
use Rattle.iter_contract.proofs.Elements.{all_set, same_length, test_read}
use Rattle.intersecting.proofs.Elements.{same_at}
use Rattle.intersecting.proofs.Agreements.{IsGathered, advance_by, gathered_here, gathered_ahead, gathered_nowhere, gathered_all}
use Rattle.intersecting.proofs.agreeing.ask_terms.Goals as goal
use Rattle.intersecting.proofs.agreeing.ask_terms.Goals.{in-Here, in-Ahead}

pub returns-in_err-advance-clause-cells : goal.returns-in_err-advance-clause-cells
returns-in_err-advance-clause-cells g c =
    map-set_same g.S.SortedSource.cells c.loop-i.sources (c.loop-i.i + 1) c.advance.new.source c.index-sources-i.result c.advance.ensures.cells ∙ c.loop-i.invariant.cells

pub returns-in-Nowhere-clause-cells : goal.returns-in-Nowhere-clause-cells
returns-in-Nowhere-clause-cells g c =
    map-set_same g.S.SortedSource.cells c.loop-i.sources (c.loop-i.i + 1) c.advance.new.source c.index-sources-i.result c.advance.ensures.cells ∙ c.loop-i.invariant.cells

pub returns-in_err-advance-clause-steady : goal.returns-in_err-advance-clause-steady
returns-in_err-advance-clause-steady g c =
    map-set_same g.S.SortedSource.steady c.loop-i.sources (c.loop-i.i + 1) c.advance.new.source c.index-sources-i.result c.advance.ensures.steady ∙ c.loop-i.invariant.steady

pub returns-in_err-advance-clause-works : goal.returns-in_err-advance-clause-works
returns-in_err-advance-clause-works g c all =
    let steady = g.S.SortedSource.steady in
    let sources = c.loop-i.sources in
    let long = same_length steady sources c.args.sources.now c.loop-i.invariant.steady in
    let inside : c.loop-i.i + 1 < length sources = omega (arith, long, c.loop-i-test.true, c.requires.count) in
    let here = test_read steady sources (c.loop-i.i + 1) c.index-sources-i.result (ap (list_all (λ b. b)) c.loop-i.invariant.steady ∙ all) inside in
    grind (arith, here, c.in_err-advance.ensures.works, c.in_err-advance.is)

pub returns-in-Nowhere-clause-steady : goal.returns-in-Nowhere-clause-steady
returns-in-Nowhere-clause-steady g c =
    map-set_same g.S.SortedSource.steady c.loop-i.sources (c.loop-i.i + 1) c.advance.new.source c.index-sources-i.result c.advance.ensures.steady ∙ c.loop-i.invariant.steady

pub returns-in-Nowhere-clause-agreement : goal.returns-in-Nowhere-clause-agreement
returns-in-Nowhere-clause-agreement g c = λ list same.
    let cells = g.S.SortedSource.cells in
    let i = c.loop-i.i in
    let source = get_or c.loop-i.sources (i + 1) c.index-sources-i.result in
    let term = get_or c.args.terms.now i c.index-terms-i.result in
    let n = place c.loop-i.column in
    let m = place c.advance.new.column in
    let long : length c.loop-i.sources ≡ length c.args.sources.now = same_length cells c.loop-i.sources c.args.sources.now c.loop-i.invariant.cells in
    let copy : cells source ≡ list = same_at cells list c.loop-i.sources c.args.sources.now (i + 1) c.index-sources-i.result c.loop-i.invariant.cells same (omega arith) in
    let advance : IsAdvance list term false n m c.in_ok-advance.field-0 = advance_by (cells source) list c.bytes.result.now term false n m c.in_ok-advance.field-0 copy (c.bytes.ensures ∙ c.index-terms-i.is) c.in_ok-advance.ensures.advance in
    gathered_nowhere list c.args.terms.now (place c.args.column.now) i c.index-terms-i.result n m c.loop-i.step c.loop-i-test.true (c.loop-i.invariant.gathered list same) (subst (IsAdvance list term false n m) c.in-Nowhere.is advance)

pub loop-i-preserved : goal.loop-i-preserved
loop-i-preserved g c =
    let cells = g.S.SortedSource.cells in
    let i = c.loop-i.i in
    let source = get_or c.loop-i.sources (i + 1) c.index-sources-i.result in
    let term = get_or c.args.terms.now i c.index-terms-i.result in
    let p = place c.args.column.now in
    let n = place c.loop-i.column in
    let m = place c.advance.new.column in
    let long : length c.loop-i.sources ≡ length c.args.sources.now = same_length cells c.loop-i.sources c.args.sources.now c.loop-i.invariant.cells in
    record {
      valid = all_set g.S.SortedSource.valid c.loop-i.sources (i + 1) c.advance.new.source c.loop-i.invariant.valid c.advance.ensures.valid;
      kept = c.advance.ensures.kept;
      cells = map-set_same cells c.loop-i.sources (i + 1) c.advance.new.source c.index-sources-i.result c.advance.ensures.cells ∙ c.loop-i.invariant.cells;
      steady = map-set_same g.S.SortedSource.steady c.loop-i.sources (i + 1) c.advance.new.source c.index-sources-i.result c.advance.ensures.steady ∙ c.loop-i.invariant.steady;
      gathered = λ list same.
          let copy : cells source ≡ list = same_at cells list c.loop-i.sources c.args.sources.now (i + 1) c.index-sources-i.result c.loop-i.invariant.cells same (omega arith) in
          let advance : IsAdvance list term false n m c.in_ok-advance.field-0 = advance_by (cells source) list c.bytes.result.now term false n m c.in_ok-advance.field-0 copy (c.bytes.ensures ∙ c.index-terms-i.is) c.in_ok-advance.ensures.advance in
          elim c.match-branch-2.branch [
            | in-Here w ↦ subst (IsGathered list c.args.terms.now (i + 1) p m) (sym w.step-is) (gathered_here list c.args.terms.now p i c.index-terms-i.result n m c.loop-i.step c.loop-i-test.true (c.loop-i.invariant.gathered list same) (subst (IsAdvance list term false n m) w.in-Here.is advance))
            | in-Ahead w ↦ subst (IsGathered list c.args.terms.now (i + 1) p m) (sym w.step-is) (gathered_ahead list c.args.terms.now p i c.index-terms-i.result n m c.loop-i.step c.loop-i-test.true (c.loop-i.invariant.gathered list same) (subst (IsAdvance list term false n m) w.in-Ahead.is advance))
          ];
    }

pub returns-clause-agreement : goal.returns-clause-agreement
returns-clause-agreement g c = λ list same. gathered_all list c.args.terms.now (place c.args.column.now) c.loop-i.i (place c.loop-i.column) c.loop-i.step c.loop-i-test.false (c.loop-i.invariant.gathered list same)
