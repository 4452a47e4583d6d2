use Rattle.std.proofs.Common.{◌≡◌, map, take}
use Rattle.std.specs.List.{AllByRecursion}
use Rattle.iter_contract.proofs.several.copies.Given as goal

abbrev pub invariant-loop-source : goal.invariant-loop-source
invariant-loop-source g l =
    let source = g.S.SortedSource in
    record {
      valid : AllByRecursion source.valid l.copies.items;
      cells : map source.cells l.copies.items ≡ map source.cells (take l.source-index l.sources);
      steady : map source.steady l.copies.items ≡ map source.steady (take l.source-index l.sources);
    }
