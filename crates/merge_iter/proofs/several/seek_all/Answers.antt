use Rattle.std.proofs.Common.{◌∙◌, ap}
use Rattle.std.specs.List.{list_all}
use Rattle.tablet_model.specs.Cuts.{within}
use Rattle.tablet_model.specs.Sum.{sum_all}
use Rattle.cell_key.specs.Ranges.{span_of}
use Rattle.iter_contract.proofs.SoughtSums.{sought_in_order, sought_sum}
use Rattle.merge_iter.proofs.HeapTops.{each_shuffled}
use Rattle.merge_iter.proofs.Shuffles.{all_shuffled, steady_shuffled, sum_shuffled}
use Rattle.merge_iter.proofs.several.seek_all.Goals as goal

pub returns-clause-cells : goal.returns-clause-cells
returns-clause-cells g c =
    let source = g.S.SortedSource in
    sum_shuffled source.cells c.seek_each.new.sources c.make_heap.new.sources c.make_heap.ensures.permutation
    ∙ ap sum_all c.in_ok-seek_each.ensures.cells

pub returns-clause-steady : goal.returns-clause-steady
returns-clause-steady g c =
    let source = g.S.SortedSource in
    steady_shuffled source.steady c.seek_each.new.sources c.make_heap.new.sources c.make_heap.ensures.permutation
    ∙ ap (list_all (λ b. b)) c.in_ok-seek_each.ensures.steady

pub returns-clause-valid : goal.returns-clause-valid
returns-clause-valid g c =
    all_shuffled g.S.SortedSource.valid c.seek_each.new.sources c.make_heap.new.sources c.make_heap.ensures.permutation c.in_ok-seek_each.ensures.valid

pub returns-clause-heap : goal.returns-clause-heap
returns-clause-heap g c =
    let source = g.S.SortedSource in
    record {
      each = each_shuffled source.rest c.seek_each.new.sources c.make_heap.new.sources c.make_heap.ensures.permutation
          (sought_in_order source.rest source.cells (span_of c.args.range.now) g.met.S.SortedSource.sorted c.seek_each.new.sources c.in_ok-seek_each.ensures.sought);
      by_top = c.make_heap.ensures.heap;
    }

pub returns-clause-rest : goal.returns-clause-rest
returns-clause-rest g c =
    let source = g.S.SortedSource in
    let span = span_of c.args.range.now in
    sum_shuffled source.rest c.seek_each.new.sources c.make_heap.new.sources c.make_heap.ensures.permutation
    ∙ sought_sum source.rest source.cells span c.seek_each.new.sources c.in_ok-seek_each.ensures.sought
    ∙ ap (λ lists. within span (sum_all lists)) c.in_ok-seek_each.ensures.cells
