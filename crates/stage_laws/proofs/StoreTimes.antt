-- Times of the parts, and what is newer.
use Rattle.std.proofs.Common.{◌≡◌, ℕ, ◌≤◌, ℤ, pos, ◌≤ℤ◌, ◌<ℤ◌, Bool, true, List, [], ◌∷◌, sym, ◌∙◌, subst, arith, inl, inr, Ordering}
use Rattle.std.specs.List.{AllByRecursion}
use Rattle.std.proofs.lemmas.Int.{ints}
use Rattle.std.specs.Cmp.{int_cmp_is}
use Rattle.tablet_model.specs.Accepted.{IsOfColumns}
use Rattle.tablet_model.specs.Ages.{AreApart, AreNewer, HasPlainMarkers, IsNewer}
use Rattle.tablet_model.specs.Cell.{Cell}
use Rattle.tablet_model.specs.Stands.{AreAllNewer, AreWithin}
use Rattle.tablet_model.proofs.Sums.{all_weaker}
use Rattle.stage_laws.proofs.Kept.{listed_key}
use Rattle.stage_laws.proofs.Parts.{LooksAtKeys}

abbrev Less : Ordering
Less = Ordering.Less

below_above : (x y : ℤ) (a b : ℕ) → x ≤ℤ pos a → a ≤ b → pos b <ℤ y → x <ℤ y
below_above x y a b h k l = omega (arith, ints)

low_weaker : (x : ℤ) (a b : ℕ) → a ≤ b → pos b <ℤ x → pos a <ℤ x
low_weaker x a b h k = omega (arith, ints)

high_weaker : (x : ℤ) (a b : ℕ) → a ≤ b → x ≤ℤ pos a → x ≤ℤ pos b
high_weaker x a b h k = omega (arith, ints)

abbrev pub IsWithin : (Cell → Bool) → ℕ → ℕ → Cell → Type 0
IsWithin plain low high e = plain e ≡ true → (pos low <ℤ e.key.time) × (e.key.time ≤ℤ pos high)

pub within_weaker : (plain : Cell → Bool) (low low' high high' : ℕ) (list : List Cell) → low' ≤ low → high ≤ high' → AreWithin plain low high list → AreWithin plain low' high' list
within_weaker plain low low' high high' list h k all = all_weaker (IsWithin plain low high) (IsWithin plain low' high') (λ e f p. (low_weaker e.key.time low' low h (f p).0, high_weaker e.key.time high high' k (f p).1)) list all

pub within_looks : (plain : Cell → Bool) → IsOfColumns plain → (low high : ℕ) → LooksAtKeys (IsWithin plain low high)
within_looks plain cols low high x y e h p = subst (λ k. (pos low <ℤ k.time) × (k.time ≤ℤ pos high)) e (h (listed_key y x (sym e) {listed = plain} cols ∙ p))

-- all pairs of plain entries
pub all_newer : (plain : Cell → Bool) (low mid mid' high : ℕ) (a x : List Cell) → mid ≤ mid' → AreWithin plain low mid a → AreWithin plain mid' high x → AreAllNewer plain x a
all_newer plain low mid mid' high a x order ha hx = all_weaker (IsWithin plain mid' high) (λ e. plain e ≡ true → AllByRecursion (λ d. plain d ≡ true → d.key.time <ℤ e.key.time) a)
    (λ e h p. all_weaker (IsWithin plain low mid) (λ d. plain d ≡ true → d.key.time <ℤ e.key.time) (λ d k q. below_above d.key.time e.key.time mid mid' (k q).1 order (h p).0) a ha) x hx

-- all pairs of one column
pub newer_columns : (plain : Cell → Bool) → IsOfColumns plain → (x a : List Cell) → AreAllNewer plain x a → AreNewer plain x a
newer_columns plain cols x a h = all_weaker (λ e. plain e ≡ true → AllByRecursion (λ d. plain d ≡ true → d.key.time <ℤ e.key.time) a) (λ e. plain e ≡ true → AllByRecursion (IsNewer e) a)
    (λ e k p. all_weaker (λ d. plain d ≡ true → d.key.time <ℤ e.key.time) (IsNewer e) (λ d l s. sym (int_cmp_is d.key.time e.key.time Less (l (cols e d s ∙ p)))) a (k p)) x h

-- the markers of a newer list
pub apart_newer : (plain : Cell → Bool) → IsOfColumns plain → (x a : List Cell) → HasPlainMarkers plain x → AreAllNewer plain x a → AreApart plain x a
apart_newer plain cols [] a m h = tt
apart_newer plain cols (e ∷ es) a m h = ((λ d. inl (columns d)), apart_newer plain cols es a m.1 h.1)
  where
    columns : e.key.deleted ≡ true → AllByRecursion (λ y. plain y ≡ true → IsNewer e y) a
    columns d = all_weaker (IsNewer e) (λ y. plain y ≡ true → IsNewer e y) (λ y n p. n) a ((newer_columns plain cols (e ∷ es) a h).0 (m.0 d))

-- the markers of an older list
pub apart_older : (plain : Cell → Bool) → IsOfColumns plain → (x a : List Cell) → HasPlainMarkers plain x → AreAllNewer plain a x → AreApart plain x a
apart_older plain cols [] a m h = tt
apart_older plain cols (e ∷ es) a m h = ((λ d. inr (columns (m.0 d))), apart_older plain cols es a m.1 (all_weaker (λ y. plain y ≡ true → AllByRecursion (λ d. plain d ≡ true → d.key.time <ℤ y.key.time) (e ∷ es)) (λ y. plain y ≡ true → AllByRecursion (λ d. plain d ≡ true → d.key.time <ℤ y.key.time) es) (λ y k p. (k p).1) a h))
  where
    columns : plain e ≡ true → AllByRecursion (λ y. plain y ≡ true → IsNewer y e) a
    columns p = all_weaker (λ y. plain y ≡ true → AllByRecursion (λ d. plain d ≡ true → d.key.time <ℤ y.key.time) (e ∷ es)) (λ y. plain y ≡ true → IsNewer y e) (λ y k q s. sym (int_cmp_is e.key.time y.key.time Less ((k q).0 p))) a h
