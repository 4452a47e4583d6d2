-- Which entries a reader takes next, and where it stands then. All of this is this project's own; that a scan goes on behind the last key
-- that it returned is Accumulo's.
use Rattle.std.specs.Prelude.{ℕ, ◌-◌, cond, not, ◌&&◌, List, [], ◌∷◌, eqb}
use Rattle.tablet_model.specs.Cell.{Cell}
use Rattle.tablet_model.specs.Places.{Place}
pub use Rattle.source_switch.specs.Parting.{Mode, plain, isolated, mode_of}
unfoldable pub use Rattle.source_switch.specs.Parting.{together, behind}

-- of the entries behind `last`, those up to where m of them are taken and the next one may be parted from them, or all
unfoldable pub taken_behind : Mode → ℕ → Cell → List Cell → List Cell
taken_behind mode m last [] = []
taken_behind mode m last (e ∷ es) = cond (eqb m 0 && not (together mode last e)) [] (e ∷ taken_behind mode (m - 1) e es)

-- the shortest beginning of a list that has at least m entries, and one at least, and parts none that may not be parted; or all
unfoldable pub take_together : Mode → ℕ → List Cell → List Cell
take_together mode m [] = []
take_together mode m (e ∷ es) = e ∷ taken_behind mode (m - 1) e es

-- the last of some entries
unfoldable pub last_of : Cell → List Cell → Cell
last_of e [] = e
last_of e (x ∷ xs) = last_of x xs

-- where a reader stands that stood at a place and took these entries
unfoldable pub place_after : Mode → Place → List Cell → Place
place_after mode p [] = p
place_after mode p (e ∷ es) = behind mode (last_of e es)
