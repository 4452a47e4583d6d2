-- Digits are text, and few of them are read as their number.
use Rattle.std.proofs.Common.{◌≡◌, ◌≤◌, Option, option_map, nat_le, ◌&&◌, ◌==◌, ℕ, zero, suc, ℤ, pos, neg_ℤ, Bool, true, false, if◌then◌else◌, List, [], ◌∷◌, length, Some, None, refl, sym, ap, ◌∙◌, arith, Result, Ok, Err}
use Rattle.std.specs.Char.{is_ascii_digit}
use Rattle.std.specs.Int.{w64}
use Rattle.std.specs.List.{list_all}
use Rattle.std.specs.Result.{OkIff, result_ok}
use Rattle.std.specs.Str.{IsAscii, IsUtf8, all_ascii_digits}
use Rattle.std.specs.Str.Parse.{ParsesSigned, ParsesUnsigned, digits_value}
use Rattle.std.proofs.lemmas.Bool.Decides.{nat_tests}
use Rattle.std.proofs.lemmas.Str.{IsUtf8-from_ascii}
use Rattle.std.proofs.lemmas.Str.Ascii.{IsAscii-nil}
use Rattle.std.proofs.lemmas.Str.Parse.{IsNumeralModel, numerals_by_value, tells_all_ascii_digits, parse_gives, parse_signed_digits, parse_signed_minus, digits_value_short}
use Rattle.std.proofs.lemmas.Fmt.{IsAscii-from_digits}
use Rattle.script_text.specs.Code.{minus}
use Rattle.script_text.specs.Numbers.{are_digits}
use Rattle.script_text.specs.Times.{size_of, time_of, without_minus}

same : (ds : List ℕ) → list_all is_ascii_digit ds ≡ all_ascii_digits ds
same [] = refl
same (d ∷ ds) = ap (λ b. is_ascii_digit d && b) (same ds)

digit_words : IsNumeralModel (λ ds. all_ascii_digits ds ≡ true) (digits_value 10)
digit_words = numerals_by_value (λ ds. all_ascii_digits ds ≡ true) tells_all_ascii_digits

pub digits_are_text : (ds : List ℕ) → all_ascii_digits ds ≡ true → IsUtf8 ds
digits_are_text ds h = IsUtf8-from_ascii ds (IsAscii-from_digits ds (digit_words.to ds h))

-- what a test of digits says
module _ (most : ℕ) (ds : List ℕ) (h : are_digits most ds ≡ true) where
  pub some_digits : 1 ≤ length ds
  some_digits = grind (arith, nat_tests)

  pub few_digits : length ds ≤ most
  few_digits = grind (arith, nat_tests)

  pub all_digits : all_ascii_digits ds ≡ true
  all_digits = sym (same ds) ∙ grind (arith, nat_tests)

pub digits_are_read : {E : Type 0} (ds : List ℕ) (r : Result ℕ E) → are_digits 10 ds ≡ true → ParsesUnsigned 64 10 ds r → r ≡ Ok (digits_value 10 ds)
digits_are_read ds r h p =
    let all = all_digits 10 ds h in
    parse_gives digit_words 64 ds r p all (some_digits 10 ds h) (omega (arith, digits_value_short digit_words ds 10 all (few_digits 10 ds h)))

-- digits behind a minus or none are text
pub times_are_text : (text : List ℕ) → are_digits 19 (without_minus text) ≡ true → IsUtf8 text
times_are_text text h = IsUtf8-from_ascii text (ascii text h)
  where
    digits : (ds : List ℕ) → are_digits 19 ds ≡ true → IsAscii ds
    digits ds h = IsAscii-from_digits ds (digit_words.to ds (all_digits 19 ds h))

    behind_minus : (b : ℕ) (bs : List ℕ) → (b == minus) ≡ true → IsAscii bs → IsAscii (b ∷ bs)
    behind_minus b bs is h zero = grind arith
    behind_minus b bs is h (suc i) = h i

    ascii : (text : List ℕ) → are_digits 19 (without_minus text) ≡ true → IsAscii text
    ascii [] h = IsAscii-nil
    ascii (b ∷ bs) h = by (b == minus) refl
      where
        by : (t : Bool) → (b == minus) ≡ t → IsAscii (b ∷ bs)
        by true is = behind_minus b bs is (digits bs (ap (λ t. are_digits 19 (if t then bs else b ∷ bs)) (sym is) ∙ h))
        by false is = digits (b ∷ bs) (ap (λ t. are_digits 19 (if t then bs else b ∷ bs)) (sym is) ∙ h)

-- a number is read exactly where a test says so
read_where : {E : Type 0} (r : Result ℤ E) (Q : Type 0) (b : Bool) (z : ℤ) → OkIff r Q z → (b ≡ true → Q) → (Q → b ≡ true) → result_ok r ≡ (if b then Some z else None)
read_where (Ok x) Q true z p from to = ap (λ v. Some v) p.1
read_where (Ok x) Q false z p from to = let no : false ≡ true = to p.0 in cc
read_where (Err e) Q true z p from to = absurd (p (from refl))
read_where (Err e) Q false z p from to = refl

-- what is found below a bound
sized : (f : ℕ → ℤ) (n : ℕ) (is_digits is_small : Bool) → is_digits ≡ true → (if is_small then Some (f n) else None) ≡ option_map f (if is_digits && is_small then Some n else None)
sized f n true true h = refl
sized f n true false h = refl
sized f n false is_small h = let no : false ≡ true = h in cc

below : (n most : ℕ) → nat_le n most ≡ true → n ≤ most
below n most h = grind (arith, nat_tests)

is_below : (n most : ℕ) → n ≤ most → nat_le n most ≡ true
is_below n most h = grind (arith, nat_tests)

-- a time, where it is known whether a minus stands first
abbrev time_by : ℕ → List ℕ → Bool → Option ℤ
time_by b bs has_minus = if has_minus then option_map (λ n. neg_ℤ (pos n)) (size_of 9223372036854775808 bs) else option_map (λ n. pos n) (size_of 9223372036854775807 (b ∷ bs))

-- digits behind a minus or none are read as the time that they spell
pub times_are_read : {E : Type 0} (text : List ℕ) (r : Result ℤ E) → are_digits 19 (without_minus text) ≡ true → ParsesSigned w64 10 text r → result_ok r ≡ time_of text
unfolding time_of
times_are_read [] r h p = let no : false ≡ true = h in cc
times_are_read (b ∷ bs) r h p = by (b == minus) refl
  where
    by : (t : Bool) → (b == minus) ≡ t → result_ok r ≡ time_by b bs (b == minus)
    by true is =
        let own : are_digits 19 bs ≡ true = ap (λ t. are_digits 19 (if t then bs else b ∷ bs)) (sym is) ∙ h in
        let n : ℕ = digits_value 10 bs in
        let minus_first : b ≡ 45 = grind arith in
        read_where r _ (nat_le n 9223372036854775808) (neg_ℤ (pos n)) (parse_signed_minus digit_words w64 (b ∷ bs) r p minus_first)
        (λ k. (all_digits 19 bs own, some_digits 19 bs own, below n 9223372036854775808 k)) (λ q. is_below n 9223372036854775808 q.2)
        ∙ sized (λ n. neg_ℤ (pos n)) n (are_digits 19 bs) (nat_le n 9223372036854775808) own ∙ ap (time_by b bs) (sym is)
    by false is =
        let own : are_digits 19 (b ∷ bs) ≡ true = ap (λ t. are_digits 19 (if t then bs else b ∷ bs)) (sym is) ∙ h in
        let n : ℕ = digits_value 10 (b ∷ bs) in
        read_where r _ (nat_le n 9223372036854775807) (pos n) (parse_signed_digits digit_words w64 (b ∷ bs) r p (all_digits 19 (b ∷ bs) own))
        (λ k. (some_digits 19 (b ∷ bs) own, omega (arith, below n 9223372036854775807 k))) (λ q. is_below n 9223372036854775807 (omega (arith, q.1)))
        ∙ sized (λ n. pos n) n (are_digits 19 (b ∷ bs)) (nat_le n 9223372036854775807) own ∙ ap (time_by b bs) (sym is)

-- other texts spell no time
pub other_texts_are_no_times : (text : List ℕ) → are_digits 19 (without_minus text) ≡ false → time_of text ≡ None
unfolding time_of
other_texts_are_no_times [] h = refl
other_texts_are_no_times (b ∷ bs) h = by (b == minus) refl
  where
    digits : (f : ℕ → ℤ) (most : ℕ) (ds : List ℕ) → are_digits 19 ds ≡ false → option_map f (size_of most ds) ≡ None
    digits f most ds h = ap (λ d. option_map f (if d && nat_le (digits_value 10 ds) most then Some (digits_value 10 ds) else None)) h

    by : (t : Bool) → (b == minus) ≡ t → time_by b bs (b == minus) ≡ None
    by true is = ap (time_by b bs) is ∙ digits (λ n. neg_ℤ (pos n)) 9223372036854775808 bs (ap (λ t. are_digits 19 (if t then bs else b ∷ bs)) (sym is) ∙ h)
    by false is = ap (time_by b bs) is ∙ digits (λ n. pos n) 9223372036854775807 (b ∷ bs) (ap (λ t. are_digits 19 (if t then bs else b ∷ bs)) (sym is) ∙ h)
