use Rattle.std.proofs.Common.{◌<◌, ◌≤◌, ◌∙◌, ap, get_or, length, arith}
use Rattle.std.proofs.Math.Seq.{map-set_same}
use Rattle.std.specs.List.{list_all}
use Rattle.cell_key.specs.Ranges.{span_of}
use Rattle.iter_contract.proofs.Elements.{all_set, all_more_set, all_taken, same_length, test_read}
use Rattle.iter_contract.specs.Several.{IsSought}
use Rattle.iter_contract.proofs.SoughtSums.{sought_now}
use Rattle.merge_iter.proofs.several.seek_each.Goals as goal

pub returns-in_err-seek-clause-cells : goal.returns-in_err-seek-clause-cells
returns-in_err-seek-clause-cells g c =
    map-set_same g.S.SortedSource.cells c.loop-source.sources c.loop-source.source-index c.seek.new.self c.source-item.result c.seek.ensures.cells
    ∙ c.loop-source.invariant.cells

pub returns-in_err-seek-clause-steady : goal.returns-in_err-seek-clause-steady
returns-in_err-seek-clause-steady g c =
    map-set_same g.S.SortedSource.steady c.loop-source.sources c.loop-source.source-index c.seek.new.self c.source-item.result c.seek.ensures.steady
    ∙ c.loop-source.invariant.steady

pub returns-in_err-seek-clause-works : goal.returns-in_err-seek-clause-works
returns-in_err-seek-clause-works g c all =
    let sources = c.loop-source.sources in
    let long = same_length g.S.SortedSource.cells sources c.args.sources.now c.loop-source.invariant.cells in
    let inside : c.loop-source.source-index < length sources = omega (arith, long, c.loop-source-test.true) in
    let here = test_read g.S.SortedSource.steady sources c.loop-source.source-index c.source-item.result (ap (list_all (λ b. b)) c.loop-source.invariant.steady ∙ all) inside in
    grind (arith, here, c.in_err-seek.ensures.works, c.in_err-seek.is)

pub loop-source-preserved : goal.loop-source-preserved
loop-source-preserved g c =
    let source = g.S.SortedSource in
    let sources = c.loop-source.sources in
    let place = c.loop-source.source-index in
    let long = same_length source.cells sources c.args.sources.now c.loop-source.invariant.cells in
    let inside : place < length sources = omega (arith, long, c.loop-source-test.true) in
    let sought : IsSought source.rest source.cells (span_of c.args.range.now) c.seek.new.self =
    sought_now source.rest source.cells (span_of c.args.range.now) (get_or sources place c.source-item.result) c.seek.new.self c.seek.ensures.cells c.in_ok-seek.ensures.rest in
    record {
      valid = all_set source.valid sources place c.seek.new.self c.loop-source.invariant.valid c.seek.ensures.valid;
      cells = map-set_same source.cells sources place c.seek.new.self c.source-item.result c.seek.ensures.cells ∙ c.loop-source.invariant.cells;
      steady = map-set_same source.steady sources place c.seek.new.self c.source-item.result c.seek.ensures.steady ∙ c.loop-source.invariant.steady;
      sought = all_more_set (IsSought source.rest source.cells (span_of c.args.range.now)) sources place c.seek.new.self inside c.loop-source.invariant.sought sought;
    }

pub returns-clause-sought : goal.returns-clause-sought
returns-clause-sought g c =
    let source = g.S.SortedSource in
    let sources = c.loop-source.sources in
    let long = same_length source.cells sources c.args.sources.now c.loop-source.invariant.cells in
    let done : length sources ≤ c.loop-source.source-index = omega (arith, long, c.loop-source-test.false) in
    all_taken (IsSought source.rest source.cells (span_of c.args.range.now)) sources c.loop-source.source-index done c.loop-source.invariant.sought
