-- What is said of a list of sources. This is this project's own.
use Rattle.std.specs.Prelude.{List, [], ◌∷◌}
use Rattle.tablet_model.specs.Cell.{Cell}
use Rattle.tablet_model.specs.Order.{above}
use Rattle.tablet_model.specs.Sorted.{Ascends}
use Rattle.tablet_model.specs.Bounds.{AreEntries}

-- what is said of the first of a list
abbrev pub at_first : {S X : Type 0} → (S → X) → X → List S → X
at_first f d [] = d
at_first f d (x ∷ xs) = f x

-- the entries of the first are in order, where those of each are
pub Ascends-first : {S : Type 0} (cells : S → List Cell) → ((s : S) → Ascends above (cells s)) → (sources : List S) → Ascends above (at_first cells [] sources)
unfolding Ascends
Ascends-first cells up [] = tt
Ascends-first cells up (s ∷ ss) = up s

-- and within bounds
pub first_bounded : {S : Type 0} (cells : S → List Cell) → ((s : S) → AreEntries (cells s)) → (sources : List S) → AreEntries (at_first cells [] sources)
first_bounded cells all [] = tt
first_bounded cells all (s ∷ ss) = all s
