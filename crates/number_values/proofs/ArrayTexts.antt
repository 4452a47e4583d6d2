-- An array is read as it was written, and its text is short.
use Rattle.std.proofs.Common.{◌≡◌, ◌<◌, ◌≤◌, ◌*◌, ◌^◌, ◌&&◌, ℕ, ℤ, pos, negsuc, true, false, List, [], ◌∷◌, ◌++◌, length, length-append, drop, map, refl, ap, ◌∙◌, zero, suc, arith}
use Rattle.std.specs.Prelude.{◌==◌, unwrap_or}
use Rattle.std.specs.Fmt.{decimal}
use Rattle.std.specs.List.{All, list_all, slice_split, concat, join_with_byte}
use Rattle.std.specs.Char.{is_ascii_digit}
use Rattle.std.specs.Str.{all_ascii_digits}
use Rattle.std.proofs.lemmas.Fmt.{decimal_is_IsNumeral, length_signed_le}
use Rattle.std.proofs.lemmas.List.{take_at, drop_at, append-nil}
use Rattle.std.proofs.lemmas.List.Splits.{slice_split_at, slice_split_none}
use Rattle.number_values.specs.declared.op.Encoding.{Encoding}
use Rattle.number_values.specs.declared.op.Encoding.TheVariants as encoding
use Rattle.number_values.specs.declared.op.Op.TheVariants as op
use Rattle.number_values.specs.Numbers.{is_long, text_of, is_number, is_some_number}
use Rattle.number_values.specs.Arrays.{eights, parts_of, is_element, element_of, are_elements, array_text}
use Rattle.number_values.proofs.Decimals.{digit_words, below, long_fits}
use Rattle.number_values.proofs.Joining.{text_back, number_long}
use Rattle.number_values.proofs.ArrayParts.{eights_more, eights_last}
use Rattle.number_values.proofs.ArrayLoops.{head_true, tail_true}

-- ---- the parts of a text are the texts of the numbers

eights_step : (x rest : List ℕ) → length x ≡ 8 → 0 < length rest → eights (x ++ rest) ≡ x ∷ eights rest
eights_step x rest e l =
    eights_more (x ++ rest) (omega (arith, length-append x rest))
    ∙ ap (λ u. u ∷ eights (drop 8 (x ++ rest))) (take_at x rest 8 e)
    ∙ ap (λ u. x ∷ eights u) (drop_at x rest 8 e)

fixed_length : (z : ℤ) → length (text_of encoding.Fixed z) ≡ 8
fixed_length z = refl

-- in 8 bytes each
fixed_parts : (a : ℤ) (v : List ℤ) → eights (concat (map (text_of encoding.Fixed) (a ∷ v))) ≡ map (text_of encoding.Fixed) (a ∷ v)
fixed_parts a [] = ap eights (append-nil (text_of encoding.Fixed a)) ∙ eights_last (text_of encoding.Fixed a) (omega (arith, fixed_length a))
fixed_parts a (b ∷ v) =
    let rest = concat (map (text_of encoding.Fixed) (b ∷ v)) in
    eights_step (text_of encoding.Fixed a) rest (fixed_length a) (omega (arith, fixed_length b, length-append (text_of encoding.Fixed b) (concat (map (text_of encoding.Fixed) v))))
    ∙ ap (λ u. text_of encoding.Fixed a ∷ u) (fixed_parts b v)

digit_is_no_comma : (c : ℕ) → is_ascii_digit c ≡ true → (c == 44) ≡ false
digit_is_no_comma c h = grind arith

-- a decimal number has no comma
no_comma : (ds : List ℕ) → all_ascii_digits ds ≡ true → All (λ c. (c == 44) ≡ false) ds
no_comma [] h k d l = absurd (omega arith)
no_comma (c ∷ ds) h zero d l = digit_is_no_comma c (head_true (is_ascii_digit c) (all_ascii_digits ds) h)
no_comma (c ∷ ds) h (suc k) d l = no_comma ds (tail_true (is_ascii_digit c) (all_ascii_digits ds) h) k d (omega arith)

decimal_no_comma : (z : ℤ) → is_number op.ArraySum z ≡ true → All (λ c. (c == 44) ≡ false) (text_of encoding.String z)
decimal_no_comma (pos n) h = no_comma (decimal n) (digit_words.from (decimal n) (decimal_is_IsNumeral n (omega (arith, below n (2 ^ 63) h))).0.1)
decimal_no_comma (negsuc n) h = let no : false ≡ true = h in cc

-- between commas
decimal_parts : (a : ℤ) (v : List ℤ) → are_elements (a ∷ v) ≡ true → slice_split (λ c. c == 44) (join_with_byte 44 (map (text_of encoding.String) (a ∷ v))) ≡ map (text_of encoding.String) (a ∷ v)
decimal_parts a [] h = slice_split_none (λ c. c == 44) (text_of encoding.String a) (decimal_no_comma a (head_true (is_number op.ArraySum a) true h))
decimal_parts a (b ∷ v) h =
    slice_split_at (λ c. c == 44) (text_of encoding.String a) 44 (join_with_byte 44 (map (text_of encoding.String) (b ∷ v))) (decimal_no_comma a (head_true (is_number op.ArraySum a) (are_elements (b ∷ v)) h)) refl
    ∙ ap (λ u. text_of encoding.String a ∷ u) (decimal_parts b v (tail_true (is_number op.ArraySum a) (are_elements (b ∷ v)) h))

-- in both encodings
pub text_parts : (e : Encoding) (a : ℤ) (v : List ℤ) → are_elements (a ∷ v) ≡ true → parts_of e (array_text e (a ∷ v)) ≡ map (text_of e) (a ∷ v)
unfolding array_text
text_parts encoding.Fixed a v h = fixed_parts a v
text_parts encoding.String a v h = decimal_parts a v h

-- ---- each text is read as its number

-- the texts spell numbers from 0 up
pub texts_are_elements : (e : Encoding) (v : List ℤ) → are_elements v ≡ true → list_all (is_element e) (map (text_of e) v) ≡ true
texts_are_elements e [] h = refl
texts_are_elements e (a ∷ v) h =
    let number : is_number op.ArraySum a ≡ true = head_true (is_number op.ArraySum a) (are_elements v) h in
    ap (λ n. is_some_number op.ArraySum n && list_all (is_element e) (map (text_of e) v)) (text_back e a (number_long op.ArraySum a number))
    ∙ ap (λ b. b && list_all (is_element e) (map (text_of e) v)) number
    ∙ texts_are_elements e v (tail_true (is_number op.ArraySum a) (are_elements v) h)

-- and just those that were written
pub texts_are_read : (e : Encoding) (v : List ℤ) → are_elements v ≡ true → map (element_of e) (map (text_of e) v) ≡ v
texts_are_read e [] h = refl
texts_are_read e (a ∷ v) h =
    let number : is_number op.ArraySum a ≡ true = head_true (is_number op.ArraySum a) (are_elements v) h in
    ap (λ n. unwrap_or n (pos 0) ∷ map (element_of e) (map (text_of e) v)) (text_back e a (number_long op.ArraySum a number))
    ∙ ap (λ u. a ∷ u) (texts_are_read e v (tail_true (is_number op.ArraySum a) (are_elements v) h))

-- ---- a text is short

-- the text of one number
pub number_text_short : (e : Encoding) (z : ℤ) → is_long z ≡ true → length (text_of e z) ≤ 20
number_text_short encoding.Fixed z h = omega (arith, fixed_length z)
number_text_short encoding.String z h = omega (arith, length_signed_le 19 z (omega (arith, (long_fits z h).sfits)) (long_fits z h).sfits)

concat_short : (v : List ℤ) → length (concat (map (text_of encoding.Fixed) v)) ≤ 8 * length v
concat_short [] = omega arith
concat_short (a ∷ v) = omega (arith, fixed_length a, length-append (text_of encoding.Fixed a) (concat (map (text_of encoding.Fixed) v)), concat_short v)

join_short : (v : List ℤ) → are_elements v ≡ true → length (join_with_byte 44 (map (text_of encoding.String) v)) ≤ 21 * length v
join_short [] h = omega arith
join_short (a ∷ []) h = omega (arith, number_text_short encoding.String a (number_long op.ArraySum a (head_true (is_number op.ArraySum a) true h)))
join_short (a ∷ b ∷ v) h =
    omega (
      arith,
      number_text_short encoding.String a (number_long op.ArraySum a (head_true (is_number op.ArraySum a) (are_elements (b ∷ v)) h)),
      length-append (text_of encoding.String a) (44 ∷ join_with_byte 44 (map (text_of encoding.String) (b ∷ v))),
      join_short (b ∷ v) (tail_true (is_number op.ArraySum a) (are_elements (b ∷ v)) h),
    )

-- the text of an array
pub array_text_short : (e : Encoding) (v : List ℤ) → are_elements v ≡ true → length (array_text e v) ≤ 21 * length v
unfolding array_text
array_text_short encoding.Fixed v h = omega (arith, concat_short v)
array_text_short encoding.String v h = join_short v h
