-- Up to an end of a range stands what lies before it.
use Rattle.std.proofs.Common.{◌≡◌, Bool, true, false, cond, List, [], ◌∷◌, refl, sym, ◌∙◌, ap}
use Rattle.std.specs.List.{AllByRecursion, filter}
use Rattle.tablet_model.specs.Cell.{Cell}
use Rattle.tablet_model.specs.Order.{above}
use Rattle.tablet_model.specs.Sorted.{Ascends}
use Rattle.tablet_model.proofs.Sums.{all_weaker}
use Rattle.iter_contract.specs.Ends.{up_to}

-- in order, what stands before the first that fails is all that passes
pub up_to_is : (p : Cell → Bool) → ((x y : Cell) → above x y ≡ false → p y ≡ true → p x ≡ true) → (list : List Cell) → Ascends above list → up_to p list ≡ filter p list
unfolding Ascends
up_to_is p down [] up = refl
up_to_is p down (x ∷ xs) up = go (p x) refl (up_to_is p down xs up.1)
  where
    nothing : (ys : List Cell) → AllByRecursion (λ y. p y ≡ false) ys → filter p ys ≡ []
    nothing [] h = refl
    nothing (y ∷ ys) h = ap (λ b. cond b (y ∷ filter p ys) (filter p ys)) h.0 ∙ nothing ys h.1

    fails : p x ≡ false → (y : Cell) → above x y ≡ false → (b : Bool) → p y ≡ b → b ≡ false
    fails k y low false m = refl
    fails k y low true m = sym (down x y low m) ∙ k

    go : (b : Bool) → p x ≡ b → up_to p xs ≡ filter p xs → cond b (x ∷ up_to p xs) [] ≡ cond b (x ∷ filter p xs) (filter p xs)
    go true k i = ap (λ l. x ∷ l) i
    go false k i = sym (nothing xs (all_weaker (λ y. above x y ≡ false) (λ y. p y ≡ false) (λ y low. fails k y low (p y) refl) xs up.0))
