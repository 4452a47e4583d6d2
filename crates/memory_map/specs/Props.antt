-- Lists are in order in one way at most, so that a cursor can keep this fact. All of this is this project's own.
use Rattle.std.specs.Prelude.{◌≡◌, Bool, true, false, List, [], ◌∷◌}
use Rattle.std.specs.Coded.{×_prop, Unit-prop, Coded-set, coded_bool}
use Rattle.std.specs.List.{AllByRecursion-prop}
use Rattle.tablet_model.specs.Cell.{Cell}
use Rattle.tablet_model.specs.Order.{above}
use Rattle.tablet_model.specs.Sorted.{Ascends}
use Rattle.iter_contract.specs.Props.{Ascends-prop}
use Rattle.iter_contract.specs.Several.{begins_behind, AreOrdered}

by_first_prop : (lists : List (List Cell)) → IsProp (Ascends begins_behind lists)
unfolding Ascends
by_first_prop [] = Unit-prop
by_first_prop (l ∷ ls) = ×_prop (AllByRecursion-prop (λ k. begins_behind l k ≡ false) (λ k. Coded-set coded_bool _ _) ls) (by_first_prop ls)

AreOrdered-prop : (lists : List (List Cell)) → IsProp (AreOrdered lists)
AreOrdered-prop lists x y = λ i. record { each = AllByRecursion-prop (Ascends above) Ascends-prop lists x.each y.each i; by_first = by_first_prop lists x.by_first y.by_first i }

-- they are in order once the runs were sought
pub ordered_prop : (is_sought : Bool) (lists : List (List Cell)) → IsProp (is_sought ≡ true → AreOrdered lists)
ordered_prop is_sought lists f g = λ i h. AreOrdered-prop lists (f h) (g h) i
