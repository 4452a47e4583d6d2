use Rattle.std.proofs.Common.{◌≡◌, List, map}
use Rattle.std.specs.Prelude.{IsSome}
use Rattle.std.specs.List.{AllByRecursion}
use Rattle.tablet_model.specs.Cell.{Cell}
use Rattle.intersecting.specs.Searches.{place}
use Rattle.intersecting.proofs.Agreements.{IsGathered}
use Rattle.intersecting.proofs.agreeing.ask_terms.Given as goal

abbrev pub invariant-loop-i : goal.invariant-loop-i
invariant-loop-i g l =
    let source = g.S.SortedSource in
    record {
      valid : AllByRecursion source.valid l.sources;
      kept : IsSome l.column;
      cells : map source.cells l.sources ≡ map source.cells l.fn.sources;
      steady : map source.steady l.sources ≡ map source.steady l.fn.sources;
      gathered : (list : List Cell) → AllByRecursion (λ cells. cells ≡ list) (map source.cells l.fn.sources) → IsGathered list l.terms l.i (place l.fn.column) (place l.column) l.step;
    }
