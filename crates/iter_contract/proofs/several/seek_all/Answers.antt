use Rattle.std.proofs.Common.{◌∙◌, ap, sym, subst, map}
use Rattle.std.specs.List.{AllByRecursion, list_all}
use Rattle.tablet_model.specs.Cuts.{within}
use Rattle.tablet_model.specs.Sum.{sum_all}
use Rattle.cell_key.specs.Ranges.{span_of}
use Rattle.iter_contract.specs.Several.{all_steady, has_later_top, AreOrdered}
use Rattle.iter_contract.proofs.Moves.{sorted_all, sorted_ordered, sorted_steady, sorted_sum}
use Rattle.iter_contract.proofs.SoughtSums.{sought_in_order, sought_sum}
use Rattle.iter_contract.proofs.several.seek_all.Goals as goal

pub returns-clause-cells : goal.returns-clause-cells
returns-clause-cells g c =
    let source = g.S.SortedSource in
    ap (λ l. sum_all (map source.cells l)) c.put_in_order.ensures
    ∙ sorted_sum (has_later_top source.rest) source.cells c.seek_each.new.sources
    ∙ ap sum_all c.in_ok-seek_each.ensures.cells

pub returns-clause-steady : goal.returns-clause-steady
returns-clause-steady g c =
    let source = g.S.SortedSource in
    ap (all_steady source.steady) c.put_in_order.ensures
    ∙ sorted_steady (has_later_top source.rest) source.steady c.seek_each.new.sources
    ∙ ap (list_all (λ b. b)) c.in_ok-seek_each.ensures.steady

pub returns-clause-valid : goal.returns-clause-valid
returns-clause-valid g c =
    let source = g.S.SortedSource in
    subst (AllByRecursion source.valid) (sym c.put_in_order.ensures)
    (sorted_all (has_later_top source.rest) source.valid c.seek_each.new.sources c.in_ok-seek_each.ensures.valid)

pub returns-clause-order : goal.returns-clause-order
returns-clause-order g c =
    let source = g.S.SortedSource in
    subst (λ l. AreOrdered (map source.rest l)) (sym c.put_in_order.ensures)
    (sorted_ordered source.rest c.seek_each.new.sources
    (sought_in_order source.rest source.cells (span_of c.args.range.now) g.met.S.SortedSource.sorted c.seek_each.new.sources c.in_ok-seek_each.ensures.sought))

pub returns-clause-rest : goal.returns-clause-rest
returns-clause-rest g c =
    let source = g.S.SortedSource in
    let span = span_of c.args.range.now in
    ap (λ l. sum_all (map source.rest l)) c.put_in_order.ensures
    ∙ sorted_sum (has_later_top source.rest) source.rest c.seek_each.new.sources
    ∙ sought_sum source.rest source.cells span c.seek_each.new.sources c.in_ok-seek_each.ensures.sought
    ∙ ap (λ lists. within span (sum_all lists)) c.in_ok-seek_each.ensures.cells
