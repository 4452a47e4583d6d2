-- Times of their own that puts bring in script lines. All of this is this project's own.
use Rattle.std.specs.Prelude.{ℕ, ℤ, pos, neg_ℤ, ◌&&◌, ◌==◌, nat_le, if◌then◌else◌, List, [], ◌∷◌, Option, Some, None, option_map}
use Rattle.std.specs.Str.Parse.{digits_value}
use Rattle.script_text.specs.Code.{minus}
use Rattle.script_text.specs.Numbers.{are_digits}

-- a number of 1 to 19 decimal digits, which may begin with zeros, up to a greatest one
abbrev pub size_of : ℕ → List ℕ → Option ℕ
size_of most text = if are_digits 19 text && nat_le (digits_value 10 text) most then Some (digits_value 10 text) else None

-- a text without a minus in front
abbrev pub without_minus : List ℕ → List ℕ
without_minus [] = []
without_minus (b ∷ bs) = if b == minus then bs else b ∷ bs

-- a time: a signed number of 64 bits, in digits behind a minus or none
unfoldable pub time_of : List ℕ → Option ℤ
time_of [] = None
time_of (b ∷ bs) =
    if b == minus then option_map (λ n. neg_ℤ (pos n)) (size_of 9223372036854775808 bs)
    else option_map (λ n. pos n) (size_of 9223372036854775807 (b ∷ bs))
