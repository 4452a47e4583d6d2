-- What std reads as a decimal number is the number that the digits spell.
use Rattle.std.proofs.Common.{◌≡◌, ◌<◌, ◌≤◌, ◌^◌, ◌&&◌, ℕ, ℤ, pos, negsuc, Bool, true, false, cond, List, [], ◌∷◌, Option, Some, None, length, length-drop, drop, zero, suc, refl, sym, ap, ◌∙◌, arith}
use Rattle.std.specs.Prelude.{nat_lt, slice_index, ◌==◌, Result, Ok, Err}
use Rattle.std.specs.Result.{result_ok}
use Rattle.std.specs.Fmt.{signed_decimal}
use Rattle.std.specs.Int.{w64}
use Rattle.std.specs.Int.RustNames.{FitsSigned}
use Rattle.std.specs.Str.{IsAscii, IsUtf8, all_ascii_digits}
use Rattle.std.specs.Str.Parse.{IsNumeral, ParsesSigned, without_leading_sign, signed_digits_value, digits_value}
use Rattle.std.proofs.lemmas.Str.Parse.{IsNumeralModel, numerals_by_value, tells_all_ascii_digits}
use Rattle.std.proofs.lemmas.Str.{IsUtf8-from_ascii}
use Rattle.std.proofs.lemmas.Str.Ascii.{IsAscii-nil}
use Rattle.std.proofs.lemmas.Fmt.{IsAscii-from_digits, length_signed_le, parse-signed_decimal}
use Rattle.number_values.specs.Numbers.{is_long, are_digits, decimal_in}

pub digit_words : IsNumeralModel (λ ds. all_ascii_digits ds ≡ true) (digits_value 10)
digit_words = numerals_by_value (λ ds. all_ascii_digits ds ≡ true) tells_all_ascii_digits

pub below : (a b : ℕ) → nat_lt a b ≡ true → a < b
below a b h = grind arith

less : (a b : ℕ) → a < b → nat_lt a b ≡ true
less a b h = grind arith

pub long_fits : (z : ℤ) → is_long z ≡ true → FitsSigned w64 z
long_fits (pos n) h = record { sfits = below n (2 ^ 63) h }
long_fits (negsuc n) h = record { sfits = below n (2 ^ 63) h }

fits_long : (z : ℤ) → FitsSigned w64 z → is_long z ≡ true
fits_long (pos n) h = less n (2 ^ 63) h.sfits
fits_long (negsuc n) h = less n (2 ^ 63) h.sfits

all_true : (a b c d : Bool) → ((a && (b && c)) && d) ≡ true → (a ≡ true) × (b ≡ true) × (c ≡ true) × (d ≡ true)
all_true true true true true h = (refl, refl, refl, refl)
all_true true true true false h = let no : false ≡ true = h in cc
all_true true true false d h = let no : false ≡ true = h in cc
all_true true false c d h = let no : false ≡ true = h in cc
all_true false b c d h = let no : false ≡ true = h in cc

four : (a b c d : Bool) → a ≡ true → b ≡ true → c ≡ true → d ≡ true → ((a && (b && c)) && d) ≡ true
four a b c d h i j k = grind arith

pub parsed_is : {E : Type 0} (bytes : List ℕ) (r : Result ℤ E) → length (without_leading_sign bytes) ≤ 32 → ParsesSigned w64 10 bytes r → result_ok r ≡ decimal_in bytes
parsed_is bytes (Ok z) short p =
    let digits = without_leading_sign bytes in
    let n = signed_digits_value 10 bytes in
    ap (λ v. Some v) p.1
    ∙ sym (ap (λ b. cond b (Some n) None) (four (all_ascii_digits digits) (nat_lt 0 (length digits)) (nat_lt (length digits) 33) (is_long n) (digit_words.from digits p.0.0.1) (less 0 (length digits) p.0.0.0) (less (length digits) 33 (omega arith)) (fits_long n p.0.1)))
parsed_is bytes (Err e) short p = go (are_digits (without_leading_sign bytes) && is_long (signed_digits_value 10 bytes)) refl
  where
    go : (b : Bool) → (are_digits (without_leading_sign bytes) && is_long (signed_digits_value 10 bytes)) ≡ b → None ≡ cond b (Some (signed_digits_value 10 bytes)) None
    go false h = refl
    go true h =
        let digits = without_leading_sign bytes in
        let n = signed_digits_value 10 bytes in
        let parts = all_true (all_ascii_digits digits) (nat_lt 0 (length digits)) (nat_lt (length digits) 33) (is_long n) h in
        absurd (p ((below 0 (length digits) parts.1, digit_words.to digits parts.0), long_fits n parts.3))

-- what is no text is no number
sign_ascii : (c : ℕ) (rest : List ℕ) → c < 128 → IsAscii rest → IsAscii (c ∷ rest)
sign_ascii c rest h k zero = h
sign_ascii c rest h k (suc i) = k i

number_ascii : (bytes : List ℕ) → all_ascii_digits (without_leading_sign bytes) ≡ true → IsAscii bytes
number_ascii [] h = IsAscii-nil
number_ascii (c ∷ rest) h = go (c == 45) (c == 43) refl refl
  where
    equal : (a b : ℕ) → (a == b) ≡ true → a ≡ b
    equal a b h = grind arith

    go : (m p : Bool) → (c == 45) ≡ m → (c == 43) ≡ p → IsAscii (c ∷ rest)
    go true p k l = sign_ascii c rest (omega (arith, equal c 45 k)) (IsAscii-from_digits rest (digit_words.to rest (ap (λ b. all_ascii_digits (cond b rest (drop (cond (c == 43) 1 0) (c ∷ rest)))) (sym k) ∙ h)))
    go false true k l = sign_ascii c rest (omega (arith, equal c 43 l)) (IsAscii-from_digits rest (digit_words.to rest (ap (λ b. all_ascii_digits (drop (cond b 1 0) (c ∷ rest))) (sym l) ∙ ap (λ b. all_ascii_digits (cond b rest (drop (cond (c == 43) 1 0) (c ∷ rest)))) (sym k) ∙ h)))
    go false false k l = IsAscii-from_digits (c ∷ rest) (digit_words.to (c ∷ rest) (ap (λ b. all_ascii_digits (drop (cond b 1 0) (c ∷ rest))) (sym l) ∙ ap (λ b. all_ascii_digits (cond b rest (drop (cond (c == 43) 1 0) (c ∷ rest)))) (sym k) ∙ h))

pub not_text : (bytes : List ℕ) → (IsUtf8 bytes → ⊥) → None ≡ decimal_in bytes
not_text bytes n = go (are_digits (without_leading_sign bytes) && is_long (signed_digits_value 10 bytes)) refl
  where
    go : (b : Bool) → (are_digits (without_leading_sign bytes) && is_long (signed_digits_value 10 bytes)) ≡ b → None ≡ cond b (Some (signed_digits_value 10 bytes)) None
    go false h = refl
    go true h =
        let digits = without_leading_sign bytes in
        let parts = all_true (all_ascii_digits digits) (nat_lt 0 (length digits)) (nat_lt (length digits) 33) (is_long (signed_digits_value 10 bytes)) h in
        absurd (n (IsUtf8-from_ascii bytes (number_ascii bytes parts.0)))

-- ---- a number is read as it was written

fewer : (bytes : List ℕ) → length (without_leading_sign bytes) ≤ length bytes
fewer bytes = go (slice_index bytes 0 == 45) (slice_index bytes 0 == 43)
  where
    go : (m p : Bool) → length (cond m (drop 1 bytes) (drop (cond p 1 0) bytes)) ≤ length bytes
    go true p = omega (arith, length-drop 1 bytes)
    go false true = omega (arith, length-drop 1 bytes)
    go false false = omega arith

pub decimal_back : (z : ℤ) → is_long z ≡ true → decimal_in (signed_decimal z) ≡ Some z
decimal_back z h = go (are_digits (without_leading_sign bytes) && is_long n) refl
  where
    bytes : List ℕ
    bytes = signed_decimal z

    n : ℤ
    n = signed_digits_value 10 bytes

    short : length (without_leading_sign bytes) ≤ 32
    short = omega (arith, fewer bytes, length_signed_le 20 z (omega (arith, (long_fits z h).sfits)) (long_fits z h).sfits)

    no_number : (found : Option ℤ) → found ≡ None → Some n ≡ found → ⊥
    no_number found k e = let no : Some n ≡ None = e ∙ k in cc

    refused : decimal_in bytes ≡ None → (IsNumeral 10 (without_leading_sign bytes) × FitsSigned w64 n) → ⊥
    refused k p = no_number (decimal_in bytes) k (parsed_is {E = Bool} bytes (Ok n) short (p, refl))

    told : (r : Result ℤ Bool) → ParsesSigned w64 10 bytes r → r ≡ Ok z
    told r p = parse-signed_decimal w64 z bytes r (long_fits z h) (long_fits z h).sfits refl p

    failed : Err true ≡ Ok z → ⊥
    failed e = let no : None ≡ Some z = ap result_ok e in cc

    go : (b : Bool) → (are_digits (without_leading_sign bytes) && is_long n) ≡ b → decimal_in bytes ≡ Some z
    go true k =
        let digits = without_leading_sign bytes in
        let parts = all_true (all_ascii_digits digits) (nat_lt 0 (length digits)) (nat_lt (length digits) 33) (is_long n) k in
        ap (λ b. cond b (Some n) None) k ∙ ap result_ok (told (Ok n) (((below 0 (length digits) parts.1, digit_words.to digits parts.0), long_fits n parts.3), refl))
    go false k = absurd (failed (told (Err true) (refused (ap (λ b. cond b (Some n) None) k))))
