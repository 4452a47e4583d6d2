-- Numbers as values: how they are spelled, and what an operation makes of them. The operations are those of Accumulo's
-- combiners; the bounds of sums and the number of digits are this project's rules.
use Rattle.std.specs.Prelude.{ℕ, ℤ, pos, negsuc, ◌+ℤ◌, ◌^◌, Bool, false, ◌&&◌, cond, List, [], ◌∷◌, Option, Some, None, length, nat_eq, nat_lt}
use Rattle.std.specs.Int.{w64, cast_signed, cast_unsigned, int_min, int_max}
use Rattle.std.specs.Str.{all_ascii_digits}
use Rattle.std.specs.Str.Parse.{without_leading_sign, signed_digits_value}
use Rattle.std.specs.Fmt.{signed_decimal}
use Rattle.byteorder.specs.Endian.{big_bytes, big_number}
use Rattle.tablet_model.specs.Reductions.{Reduction}
use Rattle.number_values.specs.declared.op.Encoding.{Encoding}
use Rattle.number_values.specs.declared.op.Encoding.TheVariants as encoding
use Rattle.number_values.specs.declared.op.Op.{Op}
use Rattle.number_values.specs.declared.op.Op.TheVariants as op

-- a signed 64-bit number
abbrev pub is_long : ℤ → Bool
is_long (pos n) = nat_lt n (2 ^ 63)
is_long (negsuc n) = nat_lt n (2 ^ 63)

-- 8 bytes, big-endian, are a number in two's complement
abbrev pub fixed_in : List ℕ → Option ℤ
fixed_in bytes = cond (nat_eq (length bytes) 8) (Some (cast_signed w64 (big_number 8 bytes))) None

-- 1 to 32 decimal digits and nothing else
abbrev pub are_digits : List ℕ → Bool
are_digits bytes = all_ascii_digits bytes && (nat_lt 0 (length bytes) && nat_lt (length bytes) 33)

-- a sign, or none, and 1 to 32 decimal digits are their number, if it is of 64 bits
abbrev pub decimal_in : List ℕ → Option ℤ
decimal_in bytes = cond (are_digits (without_leading_sign bytes) && is_long (signed_digits_value 10 bytes)) (Some (signed_digits_value 10 bytes)) None

-- the number that bytes spell, if they spell one
abbrev pub number_in : Encoding → List ℕ → Option ℤ
number_in encoding.Fixed bytes = fixed_in bytes
number_in encoding.String bytes = decimal_in bytes

-- how a number is written; decimal without leading zeros, and without `+`
abbrev pub text_of : Encoding → ℤ → List ℕ
text_of encoding.Fixed z = big_bytes 8 (cast_unsigned w64 z)
text_of encoding.String z = signed_decimal z

-- the numbers of an operation: to be added from 0 up, else any of 64 bits
abbrev pub is_number : Op → ℤ → Bool
is_number op.Min z = is_long z
is_number op.Max z = is_long z
is_number op.Sum (pos n) = nat_lt n (2 ^ 63)
is_number op.Sum (negsuc n) = false
is_number op.ArraySum (pos n) = nat_lt n (2 ^ 63)
is_number op.ArraySum (negsuc n) = false

-- addition that stops at 2^63 - 1
abbrev pub stopped_sum : ℤ → ℤ → ℤ
stopped_sum a b = int_min (a +ℤ b) (pos 9223372036854775807)

-- what an operation makes of two numbers
abbrev pub joined_number : Op → ℤ → ℤ → ℤ
joined_number op.Sum a b = stopped_sum a b
joined_number op.Min a b = int_min a b
joined_number op.Max a b = int_max a b
joined_number op.ArraySum a b = stopped_sum a b

-- whether there is a number, of the operation
abbrev pub is_some_number : Op → Option ℤ → Bool
is_some_number o None = false
is_some_number o (Some z) = is_number o z

-- a number as a value
abbrev pub value_of : Option ℤ → List ℤ
value_of None = []
value_of (Some z) = z ∷ []

-- one number of the operation
abbrev pub is_one_number : Op → List ℤ → Bool
is_one_number o [] = false
is_one_number o (z ∷ []) = is_number o z
is_one_number o (z ∷ y ∷ zs) = false

-- what an operation makes of two values of one number
abbrev pub joined_one : Op → List ℤ → List ℤ → List ℤ
joined_one o [] w = []
joined_one o (a ∷ v) [] = []
joined_one o (a ∷ v) (b ∷ w) = joined_number o a b ∷ []

-- how a value of one number is written
abbrev pub one_text : Encoding → List ℤ → List ℕ
one_text e [] = []
one_text e (z ∷ zs) = text_of e z

-- the reduction of values of one number
abbrev pub number_reduction : Op → Encoding → Reduction
number_reduction o e = record {
  reads = λ bytes. is_some_number o (number_in e bytes);
  is_value = is_one_number o;
  value = λ bytes. value_of (number_in e bytes);
  join = joined_one o;
  text = one_text e;
}
