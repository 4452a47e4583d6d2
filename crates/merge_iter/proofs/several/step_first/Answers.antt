use Rattle.std.proofs.Common.{◌<◌, ◌∙◌, ap, subst, set, length, arith}
use Rattle.std.proofs.Math.Seq.{map-set_same}
use Rattle.std.specs.List.{list_all}
use Rattle.tablet_model.specs.Sum.{sum_all}
use Rattle.iter_contract.proofs.Elements.{all_read, all_set, test_read}
use Rattle.iter_contract.proofs.FirstTops.{some_source}
use Rattle.merge_iter.proofs.HeapTops.{each_shuffled, some_of_root, stepped_below, stepped_each, stepped_root}
use Rattle.merge_iter.proofs.Shuffles.{all_shuffled, steady_shuffled, sum_shuffled}
use Rattle.merge_iter.proofs.several.step_first.Goals as goal

pub bounds-sources-0 : goal.bounds-sources-0
bounds-sources-0 g c = some_source g.S.SortedSource.rest c.args.sources.now c.requires.top

pub next-requires-clause-valid : goal.next-requires-clause-valid
next-requires-clause-valid g c =
    all_read g.S.SortedSource.valid c.args.sources.now 0 c.index-sources-0.result c.requires.valid (some_source g.S.SortedSource.rest c.args.sources.now c.requires.top)

pub next-requires-clause-top : goal.next-requires-clause-top
next-requires-clause-top g c =
    let rest = g.S.SortedSource.rest in
    subst (λ s. 0 < length (rest s)) c.index-sources-0.is (some_of_root rest c.args.sources.now c.index-sources-0.result c.requires.heap c.requires.top c.index-sources-0.is)

pub returns-in_err-next-clause-works : goal.returns-in_err-next-clause-works
returns-in_err-next-clause-works g c all =
    let sources = c.args.sources.now in
    let inside = some_source g.S.SortedSource.rest sources c.requires.top in
    let here = test_read g.S.SortedSource.steady sources 0 c.index-sources-0.result all inside in
    grind (arith, here, c.in_err-next.ensures.works, c.in_err-next.is)

pub sift_down-requires-clause-valid : goal.sift_down-requires-clause-valid
sift_down-requires-clause-valid g c =
    all_set g.S.SortedSource.valid c.args.sources.now 0 c.next.new.self c.requires.valid c.in_ok-next.ensures.valid

pub sift_down-requires-clause-heap : goal.sift_down-requires-clause-heap
sift_down-requires-clause-heap g c =
    stepped_below g.S.SortedSource.rest c.args.sources.now c.next.new.self c.requires.heap.by_top

pub returns-clause-cells : goal.returns-clause-cells
returns-clause-cells g c =
    let source = g.S.SortedSource in
    let sources = c.args.sources.now in
    sum_shuffled source.cells (set sources 0 c.next.new.self) c.sift_down.new.sources c.sift_down.ensures.permutation
    ∙ ap sum_all (map-set_same source.cells sources 0 c.next.new.self c.index-sources-0.result c.in_ok-next.ensures.cells)

pub returns-clause-steady : goal.returns-clause-steady
returns-clause-steady g c =
    let source = g.S.SortedSource in
    let sources = c.args.sources.now in
    steady_shuffled source.steady (set sources 0 c.next.new.self) c.sift_down.new.sources c.sift_down.ensures.permutation
    ∙ ap (list_all (λ b. b)) (map-set_same source.steady sources 0 c.next.new.self c.index-sources-0.result c.in_ok-next.ensures.steady)

pub returns-clause-valid : goal.returns-clause-valid
returns-clause-valid g c =
    let source = g.S.SortedSource in
    let sources = c.args.sources.now in
    all_shuffled source.valid (set sources 0 c.next.new.self) c.sift_down.new.sources c.sift_down.ensures.permutation
    (all_set source.valid sources 0 c.next.new.self c.requires.valid c.in_ok-next.ensures.valid)

pub returns-clause-heap : goal.returns-clause-heap
returns-clause-heap g c =
    let rest = g.S.SortedSource.rest in
    let sources = c.args.sources.now in
    let inside = some_source rest sources c.requires.top in
    record {
      each = each_shuffled rest (set sources 0 c.next.new.self) c.sift_down.new.sources c.sift_down.ensures.permutation
          (stepped_each rest sources c.next.new.self c.index-sources-0.result c.requires.heap inside c.in_ok-next.ensures.rest);
      by_top = c.sift_down.ensures.heap;
    }

pub returns-clause-rest : goal.returns-clause-rest
returns-clause-rest g c =
    let rest = g.S.SortedSource.rest in
    let sources = c.args.sources.now in
    sum_shuffled rest (set sources 0 c.next.new.self) c.sift_down.new.sources c.sift_down.ensures.permutation
    ∙ stepped_root rest sources c.next.new.self c.index-sources-0.result c.requires.heap c.requires.top c.in_ok-next.ensures.rest
