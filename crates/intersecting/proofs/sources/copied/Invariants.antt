use Rattle.std.proofs.Common.{◌≡◌, ◌+◌, false, length, map, []}
use Rattle.std.specs.List.{AllByRecursion}
use Rattle.intersecting.specs.Firsts.{at_first}
use Rattle.intersecting.proofs.sources.copied.Given as goal

abbrev pub invariant-loop : goal.invariant-loop
invariant-loop g l =
    let source = g.S.SortedSource in
    record {
      valid : AllByRecursion source.valid l.sources.items;
      cells : AllByRecursion (λ cells. cells ≡ source.cells l.fn.source) (map source.cells l.sources.items);
      count : length l.sources.items ≡ 1 + l.counter;
      first : at_first source.cells [] l.sources.items ≡ source.cells l.fn.source;
      rest : at_first source.rest [] l.sources.items ≡ source.rest l.fn.source;
      steady : at_first source.steady false l.sources.items ≡ source.steady l.fn.source;
      alike : AllByRecursion (λ steady. steady ≡ source.steady l.fn.source) (map source.steady l.sources.items);
    }
