-- How long the runs are that a list is kept in. This project's own rule.
use Rattle.std.specs.Prelude.{ℕ, ◌*◌, ◌≤◌, List, [], ◌∷◌, ⊤}

-- the size of the first run, if there is one
abbrev pub first_size : {X : Type 0} → (X → ℕ) → List X → ℕ
first_size size [] = 0
first_size size (x ∷ xs) = size x

-- no run is empty, and each is at least twice as long as the next
abbrev pub AreHalving : {X : Type 0} → (X → ℕ) → List X → Type 0
AreHalving size [] = ⊤
AreHalving size (x ∷ xs) = (1 ≤ size x) × (2 * first_size size xs ≤ size x) × AreHalving size xs
