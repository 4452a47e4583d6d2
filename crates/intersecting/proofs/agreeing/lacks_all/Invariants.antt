use Rattle.std.proofs.Common.{◌≡◌, List, map, drop}
use Rattle.std.specs.List.{AllByRecursion, list_any}
use Rattle.tablet_model.specs.Cell.{Cell}
use Rattle.tablet_model.specs.Rows.{has_term}
use Rattle.intersecting.specs.Searches.{place}
use Rattle.intersecting.proofs.agreeing.lacks_all.Given as goal

abbrev pub invariant-loop-i : goal.invariant-loop-i
invariant-loop-i g l =
    let source = g.S.SortedSource in
    record {
      valid : AllByRecursion source.valid l.sources;
      cells : map source.cells l.sources ≡ map source.cells l.fn.sources;
      steady : map source.steady l.sources ≡ map source.steady l.fn.sources;
      left : (list : List Cell) → AllByRecursion (λ cells. cells ≡ list) (map source.cells l.fn.sources) → list_any (has_term list (place l.column)) (drop l.i l.terms) ≡ list_any (has_term list (place l.column)) l.terms;
    }
