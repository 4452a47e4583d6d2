-- Texts that compare as equal are the same.
use Rattle.std.proofs.Common.{◌≡◌, ℕ, false, true, List, refl, sym, ap, cond, ◌∙◌, Equal, Less, Greater, Ordering}
use Rattle.std.specs.Prelude.{nat_eq}
use Rattle.std.specs.Cmp.Lexicographic.{pointwise, texts_ties}
use Rattle.std.specs.Ordering.{is_eq, is_gt, is_ge}
use Rattle.std.proofs.lemmas.Cmp.{eq_by_cmp_equiv, nat_list_cmp_total, tied_itself}
use Rattle.std.proofs.lemmas.Map.Lookups.{exact_bytes}
use Rattle.tablet_model.specs.Order.{bytes_cmp}
use Rattle.tablet_model.specs.Rows.{same_bytes}

-- ---- orderings

-- what does not hold shows anything
wrong : {A : Type 0} (a b : A) → false ≡ true → a ≡ b
wrong a b h = ap (λ c. cond c b a) h

pub equal-of-is_eq : (o : Ordering) → is_eq o ≡ true → o ≡ Equal
equal-of-is_eq Less h = wrong Less Equal h
equal-of-is_eq Equal h = refl
equal-of-is_eq Greater h = wrong Greater Equal h

pub ge-of-gt : (o : Ordering) → is_gt o ≡ true → is_ge o ≡ true
ge-of-gt Less h = h
ge-of-gt Equal h = refl
ge-of-gt Greater h = refl

-- ---- texts

pub text_itself : (a : List ℕ) → bytes_cmp a a ≡ Equal
text_itself a = tied_itself nat_list_cmp_total a

pub equal_texts : (a b : List ℕ) → same_bytes a b ≡ true → a ≡ b
unfolding same_bytes
equal_texts a b h = exact_bytes a b (equal-of-is_eq (bytes_cmp a b) h)

pub same_texts : (a b : List ℕ) → a ≡ b → same_bytes a b ≡ true
unfolding same_bytes
same_texts a b h = ap (λ c. is_eq (bytes_cmp a c)) (sym h) ∙ ap is_eq (text_itself a)

pub same_texts_turned : (a b : List ℕ) → same_bytes a b ≡ same_bytes b a
unfolding same_bytes
same_texts_turned a b = (eq_by_cmp_equiv nat_list_cmp_total).symm a b

-- as `==` of slices says it
pub same_bytes_pointwise : (a b : List ℕ) → same_bytes a b ≡ pointwise nat_eq a b
unfolding same_bytes
same_bytes_pointwise a b = sym (texts_ties a b)
