-- Sources that are always steady are steady together.
use Rattle.std.proofs.Common.{◌≡◌, true, List, [], ◌∷◌, map, refl}
use Rattle.std.specs.List.{list_all}

pub all_true : {X : Type 0} (xs : List X) → list_all (λ b. b) (map (λ _. true) xs) ≡ true
all_true [] = refl
all_true (x ∷ xs) = all_true xs
