-- One of several sources is sought, and all else stays.
use Rattle.std.proofs.Common.{◌≡◌, ℕ, zero, suc, ◌<◌, ◌&&◌, Bool, true, false, List, [], ◌∷◌, length, map, get_or, refl, sym, ◌∙◌, ap, subst, arith}
use Rattle.std.specs.List.{AllByRecursion, list_all}
use Rattle.iter_contract.specs.Several.{all_steady}
use Rattle.intersecting.specs.Firsts.{at_first}

same_here : {S X : Type 0} (f : S → X) (C : X) (xs : List S) (k : ℕ) (d : S) → AllByRecursion (λ c. c ≡ C) (map f xs) → k < length xs → f (get_or xs k d) ≡ C
same_here f C [] k d h l = absurd (omega arith)
same_here f C (z ∷ zs) zero d h l = h.0
same_here f C (z ∷ zs) (suc k) d h l = same_here f C zs k d h.1 (omega arith)

pub same_at : {S X : Type 0} (f : S → X) (C : X) (xs ys : List S) (k : ℕ) (d : S) → map f xs ≡ map f ys → AllByRecursion (λ c. c ≡ C) (map f ys) → k < length xs → f (get_or xs k d) ≡ C
same_at f C xs ys k d m h l = same_here f C xs k d (subst (AllByRecursion (λ c. c ≡ C)) (sym m) h) l

pub first_same : {S X : Type 0} (f : S → X) (d : X) (xs ys : List S) → map f xs ≡ map f ys → at_first f d xs ≡ at_first f d ys
first_same f d [] [] h = refl
first_same f d [] (y ∷ ys) h = absurd cc
first_same f d (x ∷ xs) [] h = absurd cc
first_same f d (x ∷ xs) (y ∷ ys) h = heads (f x) (f y) (map f xs) (map f ys) h
  where
    heads : {X : Type 0} (a b : X) (xs ys : List X) → a ∷ xs ≡ b ∷ ys → a ≡ b
    heads a b xs ys h = cc

pub same_first : {S X : Type 0} (f : S → X) (d : X) (xs ys : List S) → map f xs ≡ map f ys → AllByRecursion (λ c. c ≡ at_first f d ys) (map f ys) → AllByRecursion (λ c. c ≡ at_first f d xs) (map f xs)
same_first f d xs ys h a = subst (λ e. AllByRecursion (λ c. c ≡ e) (map f xs)) (sym (first_same f d xs ys h)) (subst (AllByRecursion (λ c. c ≡ at_first f d ys)) (sym h) a)

-- sources that are as steady as the first are all steady, where it is
pub all_as_first : {S : Type 0} (steady : S → Bool) (xs : List S) → AllByRecursion (λ b. b ≡ at_first steady false xs) (map steady xs) → at_first steady false xs ≡ true → all_steady steady xs ≡ true
all_as_first steady xs alike first = all_hold (map steady xs) (subst (λ a. AllByRecursion (λ b. b ≡ a) (map steady xs)) first alike)
  where
    all_hold : (bs : List Bool) → AllByRecursion (λ b. b ≡ true) bs → list_all (λ b. b) bs ≡ true
    all_hold [] h = refl
    all_hold (b ∷ bs) h = ap (λ b. b && list_all (λ b. b) bs) h.0 ∙ all_hold bs h.1
