use Rattle.std.proofs.Common.{◌≡◌, map, []}
use Rattle.std.specs.Prelude.{IsSome}
use Rattle.std.specs.List.{AllByRecursion}
use Rattle.intersecting.specs.Firsts.{at_first}
use Rattle.intersecting.specs.Searches.{place, places_left}
use Rattle.intersecting.proofs.Rounds.{IsLeft}
use Rattle.intersecting.proofs.searching.search.Given as goal

abbrev pub invariant-loop-next : goal.invariant-loop-next
invariant-loop-next g l =
    let source = g.S.SortedSource in
    let list = at_first source.cells [] l.fn.sources in
    record {
      valid : AllByRecursion source.valid l.sources;
      kept : IsSome l.column;
      cells : map source.cells l.sources ≡ map source.cells l.fn.sources;
      steady : map source.steady l.sources ≡ map source.steady l.fn.sources;
      left : IsLeft list l.terms l.without l.behind (place l.fn.column) l.is_behind (place l.column);
    }

abbrev pub decreases-loop-next : goal.decreases-loop-next
decreases-loop-next g l = places_left l.is_behind (place l.column) (at_first g.S.SortedSource.cells [] l.fn.sources)
