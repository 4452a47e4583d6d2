-- Few digits are read as their number.
use Rattle.std.proofs.Common.{◌≡◌, ◌≤◌, ◌&&◌, ℕ, true, List, [], ◌∷◌, length, refl, sym, ap, ◌∙◌, arith, Result, Ok}
use Rattle.std.specs.Char.{is_ascii_digit}
use Rattle.std.specs.List.{list_all}
use Rattle.std.specs.Str.{all_ascii_digits}
use Rattle.std.specs.Str.Parse.{ParsesUnsigned, digits_value}
use Rattle.std.proofs.lemmas.Bool.Decides.{nat_tests}
use Rattle.std.proofs.lemmas.Str.Parse.{IsNumeralModel, numerals_by_value, tells_all_ascii_digits, parse_gives, digits_value_short}
use Rattle.script_text.specs.Numbers.{are_digits}

same : (ds : List ℕ) → list_all is_ascii_digit ds ≡ all_ascii_digits ds
same [] = refl
same (d ∷ ds) = ap (λ b. is_ascii_digit d && b) (same ds)

digit_words : IsNumeralModel (λ ds. all_ascii_digits ds ≡ true) (digits_value 10)
digit_words = numerals_by_value (λ ds. all_ascii_digits ds ≡ true) tells_all_ascii_digits

-- what a test of digits says
module _ (ds : List ℕ) (h : are_digits 10 ds ≡ true) where
  some_digits : 1 ≤ length ds
  some_digits = grind (arith, nat_tests)

  few_digits : length ds ≤ 10
  few_digits = grind (arith, nat_tests)

  all_digits : all_ascii_digits ds ≡ true
  all_digits = sym (same ds) ∙ grind (arith, nat_tests)

pub digits_are_read : {E : Type 0} (ds : List ℕ) (r : Result ℕ E) → are_digits 10 ds ≡ true → ParsesUnsigned 64 10 ds r → r ≡ Ok (digits_value 10 ds)
digits_are_read ds r h p =
    let all = all_digits ds h in
    parse_gives digit_words 64 ds r p all (some_digits ds h) (omega (arith, digits_value_short digit_words ds 10 all (few_digits ds h)))
