use Rattle.std.proofs.Common.{◌≡◌, map, take}
use Rattle.std.specs.List.{AllByRecursion}
use Rattle.cell_key.specs.Ranges.{span_of}
use Rattle.iter_contract.specs.Several.{IsSought}
use Rattle.merge_iter.proofs.several.seek_each.Given as goal

abbrev pub invariant-loop-source : goal.invariant-loop-source
invariant-loop-source g l =
    let source = g.S.SortedSource in
    record {
      valid : AllByRecursion source.valid l.sources;
      cells : map source.cells l.sources ≡ map source.cells l.fn.sources;
      steady : map source.steady l.sources ≡ map source.steady l.fn.sources;
      sought : AllByRecursion (IsSought source.rest source.cells (span_of l.range)) (take l.source-index l.sources);
    }
