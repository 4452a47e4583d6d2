-- Where a range of a list ends. This is this project's own.
use Rattle.std.specs.Prelude.{Bool, cond, List, [], ◌∷◌}
use Rattle.tablet_model.specs.Cell.{Cell}

-- the entries before the first that fails a test
abbrev pub up_to : (Cell → Bool) → List Cell → List Cell
up_to p [] = []
up_to p (x ∷ xs) = cond (p x) (x ∷ up_to p xs) []
