-- What an `AnyFlag` makes of values. This project's own.
use Rattle.std.specs.Prelude.{◌≡◌, ℕ, ℤ, pos, negsuc, Bool, true, false, ◌||◌, cond, List, [], ◌∷◌, Option, option_map, nat_eq, codes, refl}
use Rattle.std.specs.Cmp.Lexicographic.{pointwise}
use Rattle.std.proofs.Common.{sym, ap, ◌∙◌, eqb-true}
use Rattle.tablet_model.specs.Reductions.{Reduction, IsLawful}
use Rattle.stages.proofs.Plain.{clash}
use Rattle.own_iterators.specs.declared.reducer.AnyFlag.{AnyFlag}

abbrev pub is_set : List ℕ → Bool
is_set bytes = pointwise nat_eq bytes (codes "1")

abbrev pub is_flag_text : List ℕ → Bool
is_flag_text bytes = pointwise nat_eq bytes (codes "0") || is_set bytes

-- a flag as a value, which is a list of numbers: the number 1 where it is set, none where not
abbrev pub flag : Bool → List ℤ
flag set = cond set (pos 1 ∷ []) []

abbrev pub is_flag : List ℤ → Bool
is_flag [] = true
is_flag (pos n ∷ []) = nat_eq n 1
is_flag (negsuc n ∷ []) = false
is_flag (z ∷ y ∷ zs) = false

-- a flag of two is set where either is
abbrev pub either : List ℤ → List ℤ → List ℤ
either [] w = w
either (z ∷ zs) w = z ∷ zs

abbrev pub flag_text : List ℤ → List ℕ
flag_text [] = codes "0"
flag_text (z ∷ zs) = codes "1"

abbrev pub flag_reduction : Reduction
flag_reduction = record {
  reads = is_flag_text;
  is_value = is_flag;
  value = λ bytes. flag (is_set bytes);
  join = either;
  text = flag_text;
}

-- the flag that it keeps, as a value
abbrev pub flag_joined : AnyFlag → Option (List ℤ)
flag_joined f = option_map flag f.join

-- ---- the law

flag_is : (b : Bool) → is_flag (flag b) ≡ true
flag_is true = refl
flag_is false = refl

-- a flag of some number is set
one : (z : ℤ) (zs : List ℤ) → is_flag (z ∷ zs) ≡ true → z ∷ zs ≡ flag true
one (pos n) [] h = ap (λ m. pos m ∷ []) (eqb-true n 1 h)
one (negsuc n) [] h = absurd (clash false h refl)
one z (y ∷ ys) h = absurd (clash false h refl)

either_is : (v w : List ℤ) → is_flag v ≡ true → is_flag w ≡ true → is_flag (either v w) ≡ true
either_is [] w h k = k
either_is (z ∷ zs) w h k = h

either_assoc : (u v w : List ℤ) → either (either u v) w ≡ either u (either v w)
either_assoc [] v w = refl
either_assoc (z ∷ zs) v w = refl

either_comm : (v w : List ℤ) → is_flag v ≡ true → is_flag w ≡ true → either v w ≡ either w v
either_comm [] [] h k = refl
either_comm [] (y ∷ ys) h k = refl
either_comm (z ∷ zs) [] h k = refl
either_comm (z ∷ zs) (y ∷ ys) h k = one z zs h ∙ sym (one y ys k)

text_read : (v : List ℤ) → is_flag_text (flag_text v) ≡ true
text_read [] = refl
text_read (z ∷ zs) = refl

text_value : (v : List ℤ) → is_flag v ≡ true → flag (is_set (flag_text v)) ≡ v
text_value [] h = refl
text_value (z ∷ zs) h = sym (one z zs h)

pub flag_lawful : IsLawful flag_reduction
flag_lawful = record {
  value_of = λ b h. flag_is (is_set b);
  joined = either_is;
  assoc = λ u v w h k l. either_assoc u v w;
  comm = either_comm;
  text_read = λ v h. text_read v;
  text_value = text_value;
}
