-- Numbers of files, ascending and all different. All of this is this project's own.
use Rattle.std.specs.Prelude.{ℕ, ◌<◌, Bool, cond, List, [], ◌∷◌, nat_lt, eqb, ⊤}
use Rattle.std.specs.List.{AllByRecursion, list_any}

-- each number is below those behind it
abbrev pub AreAscending : List ℕ → Type 0
AreAscending [] = ⊤
AreAscending (i ∷ is) = AllByRecursion (λ j. i < j) is × AreAscending is

-- whether a number is among others
abbrev pub has_number : List ℕ → ℕ → Bool
has_number ids id = list_any (eqb id) ids

-- a number put behind those that are below it, unless it is there
unfoldable pub with_number : ℕ → List ℕ → List ℕ
with_number id [] = id ∷ []
with_number id (i ∷ is) = cond (nat_lt i id) (i ∷ with_number id is) (cond (eqb i id) (i ∷ is) (id ∷ i ∷ is))

-- numbers put to others in turn
abbrev pub with_numbers : List ℕ → List ℕ → List ℕ
with_numbers [] ids = ids
with_numbers (id ∷ list) ids = with_numbers list (with_number id ids)
