-- What a stage makes of its sources' entries. All of this is this project's own.
use Rattle.std.specs.Prelude.{◌≡◌, ℕ, ◌+◌, ◌≤◌, ◌&&◌, true, false, cond, List, [], filter, length, IsSome}
use Rattle.std.specs.Arc.{arc_value}
use Rattle.tablet_model.specs.Cell.{Cell}
use Rattle.tablet_model.specs.Cuts.{is_before}
use Rattle.tablet_model.specs.Rows.{intersect_terms}
use Rattle.intersecting.specs.Documents.{matches}
use Rattle.intersecting.specs.Searches.{lies_from, place}
use Rattle.intersecting.specs.declared.stage.IntersectStage.{IntersectStage}

-- the documents that match
abbrev pub intersect_cells : IntersectStage → List Cell → List Cell
intersect_cells stage cells = intersect_terms (arc_value stage.terms) (arc_value stage.without) cells

-- the documents that are left: from the kept one on, before the end of the range
abbrev pub intersect_left : IntersectStage → List Cell → List Cell
intersect_left stage cells = cond stage.is_held
    (filter (λ d. lies_from false (place stage.column) d && is_before stage.range.end d.key) (intersect_cells stage cells))
    []

-- there is a term, and so many sources as terms, those included that documents are to be without; where a document is kept, it matches
abbrev pub IntersectFits : IntersectStage → ℕ → List Cell → Type 0
IntersectFits stage sources cells =
    (1 ≤ length (arc_value stage.terms))
    × (sources ≡ length (arc_value stage.terms) + length (arc_value stage.without))
    × (stage.is_held ≡ true → IsSome stage.column × (matches (arc_value stage.terms) (arc_value stage.without) cells (place stage.column) ≡ true))
