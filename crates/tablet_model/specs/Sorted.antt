-- Sorted lists, for any order. This project's own form of them.
use Rattle.std.specs.Prelude.{◌≡◌, Bool, true, false, cond, List, [], ◌∷◌, Option, Some, None, ⊤}
use Rattle.std.specs.List.{AllByRecursion}

-- an element put before the first that it is not above
unfoldable pub put : {X : Type 0} → (X → X → Bool) → X → List X → List X
put above x [] = x ∷ []
put above x (y ∷ ys) = cond (above x y) (y ∷ put above x ys) (x ∷ y ∷ ys)

-- the elements in order, each as often as it stands in the list
unfoldable pub sorted : {X : Type 0} → (X → X → Bool) → List X → List X
sorted above [] = []
sorted above (x ∷ xs) = put above x (sorted above xs)

-- a list is in order: no element is above a later one
unfoldable pub Ascends : {X : Type 0} → (X → X → Bool) → List X → Type 0
Ascends above [] = ⊤
Ascends above (x ∷ xs) = AllByRecursion (λ y. above x y ≡ false) xs × Ascends above xs

-- a test that orders the elements, and tells any two apart
pub record IsExactOrder {X : Type 0} (above : X → X → Bool) : Type 0 where
  pub either : (x y : X) → above x y ≡ true → above y x ≡ false
  pub chain : (x y z : X) → above x y ≡ false → above y z ≡ false → above x z ≡ false
  pub same : (x y : X) → above x y ≡ false → above y x ≡ false → x ≡ y

-- the first element
abbrev pub first : {X : Type 0} → List X → Option X
first [] = None
first (x ∷ xs) = Some x

-- the elements behind the first
abbrev pub later : {X : Type 0} → List X → List X
later [] = []
later (x ∷ xs) = xs

-- the list from its first element on that passes
abbrev pub from_first : {X : Type 0} → (X → Bool) → List X → List X
from_first p [] = []
from_first p (x ∷ xs) = cond (p x) (x ∷ xs) (from_first p xs)
