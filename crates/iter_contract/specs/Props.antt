-- A list is in order, and within bounds, in one way at most, so that a source can keep these facts. All of this is this project's own.
use Rattle.std.specs.Prelude.{◌≡◌, false, List, [], ◌∷◌}
use Rattle.std.specs.Coded.{×_prop, Unit-prop, Coded-set, coded_bool}
use Rattle.std.specs.List.{AllByRecursion-prop}
use lib.Dec.{T_prop}
use Rattle.std.proofs.Math.Bridge.{le_prop}
use Rattle.tablet_model.specs.Cell.{Cell}
use Rattle.tablet_model.specs.Order.{above}
use Rattle.tablet_model.specs.Sorted.{Ascends}
use Rattle.tablet_model.specs.Bounds.{IsEntry, AreEntries}

pub Ascends-prop : (list : List Cell) → IsProp (Ascends above list)
unfolding Ascends
Ascends-prop [] = Unit-prop
Ascends-prop (e ∷ es) = ×_prop (AllByRecursion-prop (λ y. above e y ≡ false) (λ y. Coded-set coded_bool _ _) es) (Ascends-prop es)

pub AreEntries-prop : (list : List Cell) → IsProp (AreEntries list)
AreEntries-prop list = AllByRecursion-prop IsEntry (λ e. hlevel (T_prop, le_prop)) list
