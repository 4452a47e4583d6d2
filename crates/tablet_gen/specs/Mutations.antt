-- The mutations that are made of draws, four of which make one. All of this is this project's own.
use Rattle.std.specs.Prelude.{ℕ, zero, suc, ◌+◌, ◌*◌, ◌/◌, ◌%◌, ◌==◌, nat_lt, if◌then◌else◌, List, [], ◌∷◌, ◌++◌, codes, Option, Some, None}
use Rattle.std.specs.Fmt.{decimal}
use Rattle.tablet_model.specs.History.{Change, RowChange}
use Rattle.tablet_gen.specs.Draws.{draw}

-- the last decimal digit of a number
abbrev pub digit_of : ℕ → ℕ
digit_of n = 48 + n % 10

-- the last three digits of a number, zeros among them
abbrev pub three_digits : ℕ → List ℕ
three_digits n = digit_of (n / 100) ∷ digit_of (n / 10) ∷ digit_of n ∷ []

-- the row of the first draw: one of a thousand
abbrev pub row_of : ℕ → List ℕ
row_of a = codes "r" ++ three_digits (a % 1000)

-- the family of the second draw: of four, two are of `n`, and two of `p`
abbrev pub family_of : ℕ → List ℕ
family_of b = if nat_lt (b % 4) 2 then codes "n" else codes "p"

-- the qualifier of the third draw: one of eight
abbrev pub qualifier_of : ℕ → List ℕ
qualifier_of c = codes "q" ++ decimal (c % 8)

-- the value of the second and the fourth draw: of four of the second, one deletes
abbrev pub value_of : ℕ → ℕ → Option (List ℕ)
value_of b d = if b % 4 == 3 then None else Some (decimal (d % 100))

-- the change of the last three draws
abbrev pub change_from : ℕ → ℕ → ℕ → Change
change_from b c d = record { family = family_of b; qualifier = qualifier_of c; visibility = []; time = None; value = value_of b d }

-- the mutation of four draws
unfoldable pub mutation_from : ℕ → ℕ → ℕ → ℕ → RowChange
mutation_from a b c d = record { row = row_of a; changes = change_from b c d ∷ [] }

-- the mutation from a start behind i others
abbrev pub mutation_at : ℕ → ℕ → RowChange
mutation_at i start = mutation_from (draw (4 * i) start) (draw (4 * i + 1) start) (draw (4 * i + 2) start) (draw (4 * i + 3) start)

-- the first n mutations from a start
unfoldable pub mutations_of : ℕ → ℕ → List RowChange
mutations_of zero start = []
mutations_of (suc n) start = mutations_of n start ++ mutation_at n start ∷ []
