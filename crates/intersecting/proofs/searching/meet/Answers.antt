use Rattle.std.proofs.Common.{◌≡◌, ◌∙◌, drop, get_or, not, refl, sym, subst, arith}
use Rattle.std.proofs.Math.Seq.{map-set_same}
use Rattle.std.specs.Prelude.{map, slice_set}
use Rattle.std.specs.List.{AllByRecursion, list_any}
use Rattle.tablet_model.specs.Rows.{has_term}
use Rattle.intersecting.specs.Searches.{place, IsAdvance, IsAgreement}
use Rattle.intersecting.proofs.Elements.{same_at}
use Rattle.intersecting.proofs.Advances.{shows_some}
use Rattle.intersecting.proofs.Agreements.{advance_by}
use Rattle.intersecting.proofs.Rounds.{others_are, round_nowhere, round_ends, round_moves, round_hits, round_passes}
use Rattle.intersecting.proofs.searching.meet.Goals as goal

pub returns-in-Nowhere-clause-round : goal.returns-in-Nowhere-clause-round
returns-in-Nowhere-clause-round g c = λ list same.
    let cells = g.S.SortedSource.cells in
    let source = get_or c.args.sources.now 0 c.index-sources-0.result in
    let term = get_or c.args.terms.now 0 c.index-terms-0.result in
    let p = place c.args.column.now in
    let n = place c.advance.new.column in
    let copy : cells source ≡ list = same_at cells list c.args.sources.now c.args.sources.now 0 c.index-sources-0.result refl same (omega (arith, c.requires.some, c.requires.count)) in
    let advance : IsAdvance list term c.args.behind p n c.in_ok-advance.field-0 = advance_by (cells source) list c.bytes.result.now term c.args.behind p n c.in_ok-advance.field-0 copy (c.bytes.ensures ∙ c.index-terms-0.is) c.in_ok-advance.ensures.advance in
    round_nowhere list c.args.terms.now c.args.without.now c.index-terms-0.result c.requires.some c.args.behind p n (subst (IsAdvance list term c.args.behind p n) c.in-Nowhere.is advance)

pub returns-in-Ahead : goal.returns-in-Ahead
returns-in-Ahead g c =
    let cells = g.S.SortedSource.cells in
    let set : map cells (slice_set c.args.sources.now 0 c.advance.new.source) ≡ map cells c.args.sources.now = map-set_same cells c.args.sources.now 0 c.advance.new.source c.index-sources-0.result c.advance.ensures.cells in
    record {
      valid = c.ask_terms.ensures.valid;
      kept = c.ask_terms.ensures.kept;
      cells = c.ask_terms.ensures.cells ∙ set;
      steady = c.ask_terms.ensures.steady ∙ map-set_same g.S.SortedSource.steady c.args.sources.now 0 c.advance.new.source c.index-sources-0.result c.advance.ensures.steady;
      works = λ all. refl;
      round = λ list same.
          let source = get_or c.args.sources.now 0 c.index-sources-0.result in
          let term = get_or c.args.terms.now 0 c.index-terms-0.result in
          let p = place c.args.column.now in
          let n = place c.advance.new.column in
          let copy : cells source ≡ list = same_at cells list c.args.sources.now c.args.sources.now 0 c.index-sources-0.result refl same (omega (arith, c.requires.some, c.requires.count)) in
          let advance : IsAdvance list term c.args.behind p n c.in_ok-advance.field-0 = advance_by (cells source) list c.bytes.result.now term c.args.behind p n c.in_ok-advance.field-0 copy (c.bytes.ensures ∙ c.index-terms-0.is) c.in_ok-advance.ensures.advance in
          let m = place c.ask_terms.new.column in
          let agreement : IsAgreement list (drop 1 c.args.terms.now) n m c.in_ok-ask_terms.field-0 = subst (λ others. IsAgreement list others n m c.in_ok-ask_terms.field-0) (others_are c.args.terms.now) (c.in_ok-ask_terms.ensures.agreement list (subst (AllByRecursion (λ cells. cells ≡ list)) (sym set) same)) in
          round_moves list c.args.terms.now c.args.without.now c.index-terms-0.result c.requires.some c.args.behind p n c.in_ok-advance.field-0 advance (shows_some c.in_ok-advance.field-0 c.in_default.not-Nowhere) m (subst (IsAgreement list (drop 1 c.args.terms.now) n m) c.in-Ahead.is agreement);
    }

pub returns-in-Nowhere-2 : goal.returns-in-Nowhere-2
returns-in-Nowhere-2 g c =
    let cells = g.S.SortedSource.cells in
    let set : map cells (slice_set c.args.sources.now 0 c.advance.new.source) ≡ map cells c.args.sources.now = map-set_same cells c.args.sources.now 0 c.advance.new.source c.index-sources-0.result c.advance.ensures.cells in
    record {
      valid = c.ask_terms.ensures.valid;
      kept = c.ask_terms.ensures.kept;
      cells = c.ask_terms.ensures.cells ∙ set;
      steady = c.ask_terms.ensures.steady ∙ map-set_same g.S.SortedSource.steady c.args.sources.now 0 c.advance.new.source c.index-sources-0.result c.advance.ensures.steady;
      works = λ all. refl;
      round = λ list same.
          let source = get_or c.args.sources.now 0 c.index-sources-0.result in
          let term = get_or c.args.terms.now 0 c.index-terms-0.result in
          let p = place c.args.column.now in
          let n = place c.advance.new.column in
          let copy : cells source ≡ list = same_at cells list c.args.sources.now c.args.sources.now 0 c.index-sources-0.result refl same (omega (arith, c.requires.some, c.requires.count)) in
          let advance : IsAdvance list term c.args.behind p n c.in_ok-advance.field-0 = advance_by (cells source) list c.bytes.result.now term c.args.behind p n c.in_ok-advance.field-0 copy (c.bytes.ensures ∙ c.index-terms-0.is) c.in_ok-advance.ensures.advance in
          let m = place c.ask_terms.new.column in
          let agreement : IsAgreement list (drop 1 c.args.terms.now) n m c.in_ok-ask_terms.field-0 = subst (λ others. IsAgreement list others n m c.in_ok-ask_terms.field-0) (others_are c.args.terms.now) (c.in_ok-ask_terms.ensures.agreement list (subst (AllByRecursion (λ cells. cells ≡ list)) (sym set) same)) in
          round_ends list c.args.terms.now c.args.without.now c.index-terms-0.result c.requires.some c.args.behind p n c.in_ok-advance.field-0 advance (shows_some c.in_ok-advance.field-0 c.in_default.not-Nowhere) m (subst (IsAgreement list (drop 1 c.args.terms.now) n m) c.in-Nowhere-2.is agreement);
    }

pub returns-then-branch : goal.returns-then-branch
returns-then-branch g c =
    let cells = g.S.SortedSource.cells in
    let set : map cells (slice_set c.args.sources.now 0 c.advance.new.source) ≡ map cells c.args.sources.now = map-set_same cells c.args.sources.now 0 c.advance.new.source c.index-sources-0.result c.advance.ensures.cells in
    record {
      valid = c.lacks_all.ensures.valid;
      kept = c.ask_terms.ensures.kept;
      cells = c.lacks_all.ensures.cells ∙ c.ask_terms.ensures.cells ∙ set;
      steady = c.lacks_all.ensures.steady ∙ c.ask_terms.ensures.steady ∙ map-set_same g.S.SortedSource.steady c.args.sources.now 0 c.advance.new.source c.index-sources-0.result c.advance.ensures.steady;
      works = λ all. refl;
      round = λ list same.
          let source = get_or c.args.sources.now 0 c.index-sources-0.result in
          let term = get_or c.args.terms.now 0 c.index-terms-0.result in
          let p = place c.args.column.now in
          let n = place c.advance.new.column in
          let copy : cells source ≡ list = same_at cells list c.args.sources.now c.args.sources.now 0 c.index-sources-0.result refl same (omega (arith, c.requires.some, c.requires.count)) in
          let advance : IsAdvance list term c.args.behind p n c.in_ok-advance.field-0 = advance_by (cells source) list c.bytes.result.now term c.args.behind p n c.in_ok-advance.field-0 copy (c.bytes.ensures ∙ c.index-terms-0.is) c.in_ok-advance.ensures.advance in
          let m = place c.ask_terms.new.column in
          let agreement : IsAgreement list (drop 1 c.args.terms.now) n m c.in_ok-ask_terms.field-0 = subst (λ others. IsAgreement list others n m c.in_ok-ask_terms.field-0) (others_are c.args.terms.now) (c.in_ok-ask_terms.ensures.agreement list (subst (AllByRecursion (λ cells. cells ≡ list)) (sym set) same)) in
          let lacks : c.in_ok-lacks_all.field-0 ≡ not (list_any (has_term list m) c.args.without.now) = c.in_ok-lacks_all.ensures.answer list (subst (AllByRecursion (λ cells. cells ≡ list)) (sym (c.ask_terms.ensures.cells ∙ set)) same) in
          round_hits list c.args.terms.now c.args.without.now c.index-terms-0.result c.requires.some c.args.behind p n c.in_ok-advance.field-0 advance (shows_some c.in_ok-advance.field-0 c.in_default.not-Nowhere) m (subst (IsAgreement list (drop 1 c.args.terms.now) n m) c.in-Here.is agreement) (sym lacks ∙ c.if-branch.true);
    }

pub returns-else-branch : goal.returns-else-branch
returns-else-branch g c =
    let cells = g.S.SortedSource.cells in
    let set : map cells (slice_set c.args.sources.now 0 c.advance.new.source) ≡ map cells c.args.sources.now = map-set_same cells c.args.sources.now 0 c.advance.new.source c.index-sources-0.result c.advance.ensures.cells in
    record {
      valid = c.lacks_all.ensures.valid;
      kept = c.ask_terms.ensures.kept;
      cells = c.lacks_all.ensures.cells ∙ c.ask_terms.ensures.cells ∙ set;
      steady = c.lacks_all.ensures.steady ∙ c.ask_terms.ensures.steady ∙ map-set_same g.S.SortedSource.steady c.args.sources.now 0 c.advance.new.source c.index-sources-0.result c.advance.ensures.steady;
      works = λ all. refl;
      round = λ list same.
          let source = get_or c.args.sources.now 0 c.index-sources-0.result in
          let term = get_or c.args.terms.now 0 c.index-terms-0.result in
          let p = place c.args.column.now in
          let n = place c.advance.new.column in
          let copy : cells source ≡ list = same_at cells list c.args.sources.now c.args.sources.now 0 c.index-sources-0.result refl same (omega (arith, c.requires.some, c.requires.count)) in
          let advance : IsAdvance list term c.args.behind p n c.in_ok-advance.field-0 = advance_by (cells source) list c.bytes.result.now term c.args.behind p n c.in_ok-advance.field-0 copy (c.bytes.ensures ∙ c.index-terms-0.is) c.in_ok-advance.ensures.advance in
          let m = place c.ask_terms.new.column in
          let agreement : IsAgreement list (drop 1 c.args.terms.now) n m c.in_ok-ask_terms.field-0 = subst (λ others. IsAgreement list others n m c.in_ok-ask_terms.field-0) (others_are c.args.terms.now) (c.in_ok-ask_terms.ensures.agreement list (subst (AllByRecursion (λ cells. cells ≡ list)) (sym set) same)) in
          let lacks : c.in_ok-lacks_all.field-0 ≡ not (list_any (has_term list m) c.args.without.now) = c.in_ok-lacks_all.ensures.answer list (subst (AllByRecursion (λ cells. cells ≡ list)) (sym (c.ask_terms.ensures.cells ∙ set)) same) in
          round_passes list c.args.terms.now c.args.without.now c.index-terms-0.result c.requires.some c.args.behind p n c.in_ok-advance.field-0 advance (shows_some c.in_ok-advance.field-0 c.in_default.not-Nowhere) m (subst (IsAgreement list (drop 1 c.args.terms.now) n m) c.in-Here.is agreement) (sym lacks ∙ c.if-branch.false);
    }
