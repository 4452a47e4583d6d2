-- What is left behind a place of a range.
use Rattle.std.proofs.Common.{◌≡◌, ◌&&◌, List, ◌∙◌}
use Rattle.std.specs.List.{filter}
use Rattle.tablet_model.specs.Cell.{CellKey, Cell}
use Rattle.tablet_model.specs.Cuts.{Span, holds, within}
use Rattle.tablet_model.specs.Places.{Place, is_after, after}
use Rattle.tablet_model.proofs.Seeks.{filter_both}

-- the part of a range behind a place has what the range has behind the place
pub sought_behind : (part span : Span) (p : Place) (cells : List Cell) → ((k : CellKey) → holds part k ≡ (holds span k && is_after p k))
    → within part cells ≡ after p (within span cells)
sought_behind part span p cells parts = (λ i. filter (λ e. parts e.key i) cells) ∙ filter_both (λ e. holds span e.key) (λ e. is_after p e.key) cells
