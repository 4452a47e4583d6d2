-- What is left behind a place of a range.
use Rattle.std.proofs.Common.{◌≡◌, ◌&&◌, List, ap, ◌∙◌}
use Rattle.std.specs.List.{filter}
use Rattle.tablet_model.specs.Cell.{CellKey, Cell}
use Rattle.tablet_model.specs.Cuts.{Span, holds, within}
use Rattle.tablet_model.specs.Places.{Place, is_after, after}
use Rattle.tablet_model.proofs.Seeks.{filter_both}

-- a seek to the part of a range behind a place leaves what the range has behind the place
pub sought_behind : (part span range : Span) (p : Place) (cells list whole rest : List Cell)
    → rest ≡ within part cells → ((k : CellKey) → holds part k ≡ (holds span k && is_after p k)) → span ≡ range
    → cells ≡ list → within range list ≡ whole → rest ≡ after p whole
sought_behind part span range p cells list whole rest sought parts same_span same_cells answers =
    sought
    ∙ (λ i. filter (λ e. parts e.key i) cells)
    ∙ filter_both (λ e. holds span e.key) (λ e. is_after p e.key) cells
    ∙ (λ i. after p (within (same_span i) (same_cells i)))
    ∙ ap (after p) answers
