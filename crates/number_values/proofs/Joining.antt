-- Numbers are read as they were written, and joined in any order.
use Rattle.std.proofs.Common.{◌≡◌, ◌<◌, ◌^◌, ◌+◌, ℕ, ℤ, pos, negsuc, Bool, true, false, cond, List, [], ◌∷◌, Option, Some, None, refl, ap, ◌∙◌, arith}
use Rattle.std.specs.Int.{w64, cast_signed, cast_unsigned, int_min, int_max}
use Rattle.std.specs.Prelude.{nat_lt}
use Rattle.std.proofs.lemmas.Int.{ints, clamps, to_z-of_z}
use Rattle.byteorder.specs.Numbers.{big_number-reads_back}
use Rattle.tablet_model.specs.Reductions.{IsLawful}
use Rattle.number_values.specs.declared.op.Encoding.{Encoding}
use Rattle.number_values.specs.declared.op.Encoding.TheVariants as encoding
use Rattle.number_values.specs.declared.op.Op.{Op}
use Rattle.number_values.specs.declared.op.Op.TheVariants as op
use Rattle.number_values.specs.Numbers.{is_long, number_in, text_of, is_number, joined_number, stopped_sum, is_some_number, value_of, is_one_number, joined_one, one_text, number_reduction}
use Rattle.number_values.proofs.Decimals.{long_fits, decimal_back}

-- ---- joining

min_comm : (a b : ℤ) → int_min a b ≡ int_min b a
min_comm a b = omega (arith, ints, clamps)

max_comm : (a b : ℤ) → int_max a b ≡ int_max b a
max_comm a b = omega (arith, ints, clamps)

min_assoc : (a b c : ℤ) → int_min (int_min a b) c ≡ int_min a (int_min b c)
min_assoc a b c = omega (arith, ints, clamps)

max_assoc : (a b c : ℤ) → int_max (int_max a b) c ≡ int_max a (int_max b c)
max_assoc a b c = omega (arith, ints, clamps)

pub sum_comm : (a b : ℤ) → stopped_sum a b ≡ stopped_sum b a
sum_comm a b = omega (arith, ints, clamps)

sum_assoc : (a b c : ℕ) → stopped_sum (stopped_sum (pos a) (pos b)) (pos c) ≡ stopped_sum (pos a) (stopped_sum (pos b) (pos c))
sum_assoc a b c = omega (arith, ints, clamps)

-- what is chosen of two numbers is one of them
chosen : (o : Op) (b : Bool) (x y : ℤ) → is_number o x ≡ true → is_number o y ≡ true → is_number o (cond b x y) ≡ true
chosen o true x y h k = h
chosen o false x y h k = k

stopped_below : (m n : ℕ) → is_number op.Sum (stopped_sum (pos m) (pos n)) ≡ true
stopped_below m n = go (nat_lt 9223372036854775807 (m + n)) refl
  where
    not_above : (k : ℕ) → nat_lt 9223372036854775807 k ≡ false → nat_lt k (2 ^ 63) ≡ true
    not_above k h = grind arith

    go : (b : Bool) → nat_lt 9223372036854775807 (m + n) ≡ b → is_number op.Sum (cond b (pos 9223372036854775807) (pos (m + n))) ≡ true
    go true h = refl
    go false h = not_above (m + n) h

pub joined_is : (o : Op) (a b : ℤ) → is_number o a ≡ true → is_number o b ≡ true → is_number o (joined_number o a b) ≡ true
joined_is op.Min a b h k = chosen op.Min _ b a k h
joined_is op.Max a b h k = chosen op.Max _ a b h k
joined_is op.Sum (pos m) (pos n) h k = stopped_below m n
joined_is op.Sum (pos m) (negsuc n) h k = let no : false ≡ true = k in cc
joined_is op.Sum (negsuc m) b h k = let no : false ≡ true = h in cc
joined_is op.ArraySum (pos m) (pos n) h k = stopped_below m n
joined_is op.ArraySum (pos m) (negsuc n) h k = let no : false ≡ true = k in cc
joined_is op.ArraySum (negsuc m) b h k = let no : false ≡ true = h in cc

joined_comm : (o : Op) (a b : ℤ) → joined_number o a b ≡ joined_number o b a
joined_comm op.Min a b = min_comm a b
joined_comm op.Max a b = max_comm a b
joined_comm op.Sum a b = sum_comm a b
joined_comm op.ArraySum a b = sum_comm a b

pub sums_assoc : (a b c : ℤ) → is_number op.Sum a ≡ true → is_number op.Sum b ≡ true → is_number op.Sum c ≡ true → stopped_sum (stopped_sum a b) c ≡ stopped_sum a (stopped_sum b c)
sums_assoc (pos a) (pos b) (pos c) h k l = sum_assoc a b c
sums_assoc (negsuc a) b c h k l = let no : false ≡ true = h in cc
sums_assoc (pos a) (negsuc b) c h k l = let no : false ≡ true = k in cc
sums_assoc (pos a) (pos b) (negsuc c) h k l = let no : false ≡ true = l in cc

joined_assoc : (o : Op) (a b c : ℤ) → is_number o a ≡ true → is_number o b ≡ true → is_number o c ≡ true → joined_number o (joined_number o a b) c ≡ joined_number o a (joined_number o b c)
joined_assoc op.Min a b c h k l = min_assoc a b c
joined_assoc op.Max a b c h k l = max_assoc a b c
joined_assoc op.Sum a b c h k l = sums_assoc a b c h k l
joined_assoc op.ArraySum (pos a) (pos b) (pos c) h k l = sum_assoc a b c
joined_assoc op.ArraySum (negsuc a) b c h k l = let no : false ≡ true = h in cc
joined_assoc op.ArraySum (pos a) (negsuc b) c h k l = let no : false ≡ true = k in cc
joined_assoc op.ArraySum (pos a) (pos b) (negsuc c) h k l = let no : false ≡ true = l in cc

-- ---- texts

fixed_back : (z : ℤ) → is_long z ≡ true → number_in encoding.Fixed (text_of encoding.Fixed z) ≡ Some z
fixed_back z h = ap (λ n. Some (cast_signed w64 n)) (big_number-reads_back 8 (cast_unsigned w64 z) [] (bits z h)) ∙ ap (λ z. Some z) (to_z-of_z w64 z (long_fits z h))
  where
    below : (a b : ℕ) → nat_lt a b ≡ true → a < b
    below a b h = grind arith

    bits : (z : ℤ) → is_long z ≡ true → cast_unsigned w64 z < 2 ^ 64
    bits (pos n) h = omega (arith, below n (2 ^ 63) h)
    bits (negsuc n) h = omega arith

pub text_back : (e : Encoding) (z : ℤ) → is_long z ≡ true → number_in e (text_of e z) ≡ Some z
text_back encoding.Fixed z h = fixed_back z h
text_back encoding.String z h = decimal_back z h

pub number_long : (o : Op) (z : ℤ) → is_number o z ≡ true → is_long z ≡ true
number_long op.Min z h = h
number_long op.Max z h = h
number_long op.Sum (pos n) h = h
number_long op.Sum (negsuc n) h = let no : false ≡ true = h in cc
number_long op.ArraySum (pos n) h = h
number_long op.ArraySum (negsuc n) h = let no : false ≡ true = h in cc

-- ---- values of one number

read_value : (o : Op) (n : Option ℤ) → is_some_number o n ≡ true → is_one_number o (value_of n) ≡ true
read_value o None h = let no : false ≡ true = h in cc
read_value o (Some z) h = h

one_joined : (o : Op) (v w : List ℤ) → is_one_number o v ≡ true → is_one_number o w ≡ true → is_one_number o (joined_one o v w) ≡ true
one_joined o (a ∷ []) (b ∷ []) h k = joined_is o a b h k
one_joined o [] w h k = let no : false ≡ true = h in cc
one_joined o (a ∷ c ∷ v) w h k = let no : false ≡ true = h in cc
one_joined o (a ∷ []) [] h k = let no : false ≡ true = k in cc
one_joined o (a ∷ []) (b ∷ c ∷ w) h k = let no : false ≡ true = k in cc

one_comm : (o : Op) (v w : List ℤ) → is_one_number o v ≡ true → is_one_number o w ≡ true → joined_one o v w ≡ joined_one o w v
one_comm o (a ∷ []) (b ∷ []) h k = ap (λ z. z ∷ []) (joined_comm o a b)
one_comm o [] w h k = let no : false ≡ true = h in cc
one_comm o (a ∷ c ∷ v) w h k = let no : false ≡ true = h in cc
one_comm o (a ∷ []) [] h k = let no : false ≡ true = k in cc
one_comm o (a ∷ []) (b ∷ c ∷ w) h k = let no : false ≡ true = k in cc

one_assoc : (o : Op) (u v w : List ℤ) → is_one_number o u ≡ true → is_one_number o v ≡ true → is_one_number o w ≡ true → joined_one o (joined_one o u v) w ≡ joined_one o u (joined_one o v w)
one_assoc o (a ∷ []) (b ∷ []) (c ∷ []) h k l = ap (λ z. z ∷ []) (joined_assoc o a b c h k l)
one_assoc o [] v w h k l = let no : false ≡ true = h in cc
one_assoc o (a ∷ d ∷ u) v w h k l = let no : false ≡ true = h in cc
one_assoc o (a ∷ []) [] w h k l = let no : false ≡ true = k in cc
one_assoc o (a ∷ []) (b ∷ d ∷ v) w h k l = let no : false ≡ true = k in cc
one_assoc o (a ∷ []) (b ∷ []) [] h k l = let no : false ≡ true = l in cc
one_assoc o (a ∷ []) (b ∷ []) (c ∷ d ∷ w) h k l = let no : false ≡ true = l in cc

-- the first number
abbrev first_or : List ℤ → ℤ
first_or [] = pos 0
first_or (z ∷ v) = z

one_read : (o : Op) (e : Encoding) (v : List ℤ) → is_one_number o v ≡ true → number_in e (one_text e v) ≡ Some (first_or v)
one_read o e [] h = let no : false ≡ true = h in cc
one_read o e (z ∷ []) h = text_back e z (number_long o z h)
one_read o e (z ∷ y ∷ v) h = let no : false ≡ true = h in cc

one_itself : (o : Op) (v : List ℤ) → is_one_number o v ≡ true → (is_number o (first_or v) ≡ true) × (first_or v ∷ [] ≡ v)
one_itself o [] h = let no : false ≡ true = h in cc
one_itself o (z ∷ []) h = (h, refl)
one_itself o (z ∷ y ∷ v) h = let no : false ≡ true = h in cc

-- the reduction of values of one number is lawful
pub number_lawful : (o : Op) (e : Encoding) → IsLawful (number_reduction o e)
number_lawful o e = record {
  value_of = λ bytes h. read_value o (number_in e bytes) h;
  joined = one_joined o;
  assoc = one_assoc o;
  comm = one_comm o;
  text_read = λ v h. ap (is_some_number o) (one_read o e v h) ∙ (one_itself o v h).0;
  text_value = λ v h. ap value_of (one_read o e v h) ∙ (one_itself o v h).1;
}
