-- What is said of each element of a list.
use Rattle.std.proofs.Common.{◌≡◌, ℕ, zero, suc, ◌+◌, ◌<◌, ◌≤◌, ◌&&◌, Bool, true, List, [], ◌∷◌, length, map, take, drop, get_or, set, sym, ◌∙◌, ap, subst, arith}
use Rattle.std.proofs.lemmas.List.{length-map, take_all, take_more_set}
use Rattle.std.specs.List.{AllByRecursion, list_all}
use Rattle.tablet_model.proofs.Bools.{both-of-and}
use Rattle.tablet_model.proofs.Merges.{all_append}

-- of the element at a place
pub all_read : {X : Type 0} (P : X → Type 0) (xs : List X) (i : ℕ) (x : X) → AllByRecursion P xs → i < length xs → P (get_or xs i x)
all_read P [] i x h l = absurd (omega arith)
all_read P (y ∷ ys) zero x h l = h.0
all_read P (y ∷ ys) (suc i) x h l = all_read P ys i x h.1 (omega arith)

-- another in its place
pub all_set : {X : Type 0} (P : X → Type 0) (xs : List X) (i : ℕ) (x : X) → AllByRecursion P xs → P x → AllByRecursion P (set xs i x)
all_set P [] i x h p = tt
all_set P (y ∷ ys) zero x h p = (p, h.1)
all_set P (y ∷ ys) (suc i) x h p = (h.0, all_set P ys i x h.1 p)

-- one element more has another in its place
pub all_more_set : {X : Type 0} (P : X → Type 0) (xs : List X) (i : ℕ) (x : X) → i < length xs → AllByRecursion P (take i xs) → P x → AllByRecursion P (take (i + 1) (set xs i x))
all_more_set P xs i x l h p = subst (AllByRecursion P) (sym (take_more_set xs i x l)) (all_append P (take i xs) (x ∷ []) h (p, tt))

-- of all first elements, when they are all
pub all_taken : {X : Type 0} (P : X → Type 0) (xs : List X) (i : ℕ) → length xs ≤ i → AllByRecursion P (take i xs) → AllByRecursion P xs
all_taken P xs i l h = subst (AllByRecursion P) (take_all i xs l) h

-- of those behind a place
pub all_dropped : {X : Type 0} (P : X → Type 0) (xs : List X) (i : ℕ) → AllByRecursion P xs → AllByRecursion P (drop i xs)
all_dropped P xs zero h = h
all_dropped P [] (suc i) h = tt
all_dropped P (x ∷ xs) (suc i) h = all_dropped P xs i h.1

-- where all tests hold, so does that of an element
pub test_read : {X : Type 0} (f : X → Bool) (xs : List X) (i : ℕ) (x : X) → list_all (λ b. b) (map f xs) ≡ true → i < length xs → f (get_or xs i x) ≡ true
test_read f [] i x h l = absurd (omega arith)
test_read f (y ∷ ys) zero x h l = (both-of-and (f y) (list_all (λ b. b) (map f ys)) h).0
test_read f (y ∷ ys) (suc i) x h l = test_read f ys i x (both-of-and (f y) (list_all (λ b. b) (map f ys)) h).1 (omega arith)

-- lists of which a function gives the same are of one length
pub same_length : {X Y : Type 0} (f : X → Y) (xs ys : List X) → map f xs ≡ map f ys → length xs ≡ length ys
same_length f xs ys h = sym (length-map xs f) ∙ ap length h ∙ length-map ys f
