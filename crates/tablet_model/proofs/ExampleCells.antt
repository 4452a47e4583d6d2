-- What examples are made of: entries in row `r1` and family `n` or anywhere, and a reduction that counts tally marks.
use Rattle.std.proofs.Common.{◌≡◌, ℕ, zero, suc, ◌+◌, ◌≤◌, ℤ, pos, negsuc, Bool, true, false, cond, nat_lt, List, [], ◌∷◌, length, replicate, refl, sym, ap, ◌∙◌, subst, codes, arith}
use Rattle.tablet_model.specs.Cell.{CellKey, Cell}
use Rattle.tablet_model.specs.Reductions.{Reduction, IsLawful}

abbrev pub key : List ℕ → List ℕ → List ℕ → ℕ → Bool → CellKey
key row family qualifier time deleted = record { row = row; family = family; qualifier = qualifier; visibility = []; time = pos time; deleted = deleted }

abbrev pub entry : List ℕ → List ℕ → List ℕ → ℕ → List ℕ → Cell
entry row family qualifier time value = record { key = key row family qualifier time false; value = value }

abbrev pub put_at : List ℕ → ℕ → List ℕ → Cell
put_at qualifier time value = entry (codes "r1") (codes "n") qualifier time value

abbrev pub marker_at : List ℕ → ℕ → Cell
marker_at qualifier time = record { key = key (codes "r1") (codes "n") qualifier time true; value = [] }

-- of the column `x`
abbrev pub put_x : ℕ → List ℕ → Cell
put_x time value = put_at (codes "x") time value

abbrev pub marker_x : ℕ → Cell
marker_x time = marker_at (codes "x") time

-- two answers that differ in the length of a value
pub differ : (v w : List ℕ) (time : ℕ) → (length v ≡ length w → ⊥) → put_x time v ∷ [] ≡ put_x time w ∷ [] → ⊥
differ v w time apart h = apart (ap first_length h)
  where
    first_length : List Cell → ℕ
    first_length [] = 0
    first_length (e ∷ es) = length e.value

pub one_none : ◌≡◌ {A = ℕ} 1 0 → ⊥
one_none h = omega arith

-- or one of which is empty
pub not_empty : (e : Cell) → e ∷ [] ≡ [] → ⊥
not_empty e h = one_none (ap length h)

-- nine at most
abbrev pub few : ℕ → ℕ
few n = cond (nat_lt n 9) n 9

-- a number from 0 to 9
abbrev pub is_count : List ℤ → Bool
is_count [] = false
is_count (pos n ∷ []) = nat_lt n 10
is_count (pos n ∷ x ∷ xs) = false
is_count (negsuc n ∷ xs) = false

abbrev pub both_counts : List ℤ → List ℤ → List ℤ
both_counts (pos m ∷ []) (pos n ∷ []) = pos (few (m + n)) ∷ []
both_counts v w = []

-- as many `|`, whose code is 124
abbrev pub marks : List ℤ → List ℕ
marks (pos n ∷ []) = replicate n 124
marks v = []

-- values are counted by their bytes, up to nine, and written as marks: `|` and `||` are `|||`
abbrev pub tally : Reduction
tally = record { reads = λ b. true; is_value = is_count; value = λ b. pos (few (length b)) ∷ []; join = both_counts; text = marks }

pub length_marks : (n : ℕ) → length {A = ℕ} (replicate n 124) ≡ n
length_marks zero = refl
length_marks (suc n) = ap suc (length_marks n)

-- of counts alone
pub of_counts : (P : List ℤ → Type 0) → ((n : ℕ) → nat_lt n 10 ≡ true → P (pos n ∷ [])) → (v : List ℤ) → is_count v ≡ true → P v
of_counts P f [] h = absurd (grind arith)
of_counts P f (pos n ∷ []) h = f n h
of_counts P f (pos n ∷ x ∷ xs) h = absurd (grind arith)
of_counts P f (negsuc n ∷ xs) h = absurd (grind arith)

few_few : (n : ℕ) → nat_lt (few n) 10 ≡ true
few_few n = grind arith

few_same : (n : ℕ) → nat_lt n 10 ≡ true → few n ≡ n
few_same n h = grind arith

few_assoc : (a b c : ℕ) → few (few (a + b) + c) ≡ few (a + few (b + c))
few_assoc a b c = grind arith

few_comm : (a b : ℕ) → few (a + b) ≡ few (b + a)
few_comm a b = grind arith

pub tally_lawful : IsLawful tally
tally_lawful = record {
  value_of = λ b h. few_few (length b);
  joined = λ v w hv hw. of_counts (λ v. is_count (both_counts v w) ≡ true) (λ m h. of_counts (λ w. is_count (both_counts (pos m ∷ []) w) ≡ true) (λ n k. few_few (m + n)) w hw) v hv;
  assoc = λ u v w hu hv hw. of_counts (λ u. both_counts (both_counts u v) w ≡ both_counts u (both_counts v w))
      (λ a ha. of_counts (λ v. both_counts (both_counts (pos a ∷ []) v) w ≡ both_counts (pos a ∷ []) (both_counts v w))
      (λ b hb. of_counts (λ w. both_counts (both_counts (pos a ∷ []) (pos b ∷ [])) w ≡ both_counts (pos a ∷ []) (both_counts (pos b ∷ []) w)) (λ c hc. ap (λ n. pos n ∷ []) (few_assoc a b c)) w hw) v hv) u hu;
  comm = λ v w hv hw. of_counts (λ v. both_counts v w ≡ both_counts w v) (λ a ha. of_counts (λ w. both_counts (pos a ∷ []) w ≡ both_counts w (pos a ∷ [])) (λ b hb. ap (λ n. pos n ∷ []) (few_comm a b)) w hw) v hv;
  text_read = λ v h. refl;
  text_value = λ v h. of_counts (λ v. pos (few (length (marks v))) ∷ [] ≡ v) (λ n k. ap (λ n. pos n ∷ []) (ap few (length_marks n) ∙ few_same n k)) v h;
}

pub tally_short : (v : List ℤ) → is_count v ≡ true → length (marks v) ≤ 65536
tally_short v h = of_counts (λ v. length (marks v) ≤ 65536) (λ n k. subst (λ m. m ≤ 65536) (sym (length_marks n)) (small n k)) v h
  where
    small : (n : ℕ) → nat_lt n 10 ≡ true → n ≤ 65536
    small n k = grind arith
