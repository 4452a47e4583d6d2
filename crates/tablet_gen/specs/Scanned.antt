-- The totals of a scan, as the code keeps them. All of this is this project's own.
use Rattle.std.specs.Prelude.{◌≡◌, List, length}
use Rattle.tablet_model.specs.Cell.{Cell}
use Rattle.tablet_gen.specs.Totals.{total_of}
use Rattle.tablet_gen.specs.declared.totals.Totals.{Totals}

-- they are those of some entries
pub record AreTotalsOf (cells : List Cell) (t : Totals) : Type 0 where
  pub entries : t.entries ≡ length cells
  pub total : t.total ≡ total_of cells
