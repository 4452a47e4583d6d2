-- Parts of lists whose elements stand in some relation, each with all behind it.
use Rattle.std.proofs.Common.{◌≡◌, Bool, true, false, cond, List, [], ◌∷◌, ◌++◌, map}
use Rattle.std.specs.List.{AllByRecursion, IsDistinct, filter}
use Rattle.std.specs.List.Sorted.{IsStrictlySortedBy}
use Rattle.std.specs.declared.cmp.Ordering.{Ordering}
use Rattle.std.specs.declared.cmp.Ordering.TheVariants.{Less}
use Rattle.tablet_model.specs.Sorted.{Ascends}
use Rattle.tablet_model.proofs.Maps.{all_map}
use Rattle.tablet_model.proofs.Merges.{all_append, all_left}
use Rattle.tablet_model.proofs.Sums.{all_filter, all_weaker}

-- a list whose parts ascend, and no element of the first is above one of the second
pub Ascends-append : {X : Type 0} (above : X → X → Bool) (xs ys : List X) → Ascends above xs → Ascends above ys
    → AllByRecursion (λ x. AllByRecursion (λ y. above x y ≡ false) ys) xs → Ascends above (xs ++ ys)
unfolding Ascends
Ascends-append above [] ys u v h = v
Ascends-append above (x ∷ xs) ys u v h = (all_append (λ y. above x y ≡ false) xs ys u.0 h.0, Ascends-append above xs ys u.1 v h.1)

pub Ascends-front : {X : Type 0} (above : X → X → Bool) (xs ys : List X) → Ascends above (xs ++ ys) → Ascends above xs
unfolding Ascends
Ascends-front above [] ys h = tt
Ascends-front above (x ∷ xs) ys h = (all_left (λ y. above x y ≡ false) xs ys h.0, Ascends-front above xs ys h.1)

-- by an order that tells fewer apart
pub Ascends-weaker : {X : Type 0} (above other : X → X → Bool) → ((x y : X) → above x y ≡ false → other x y ≡ false) → (xs : List X)
    → Ascends above xs → Ascends other xs
unfolding Ascends
Ascends-weaker above other weaker [] h = tt
Ascends-weaker above other weaker (x ∷ xs) h =
    (all_weaker (λ y. above x y ≡ false) (λ y. other x y ≡ false) (weaker x) xs h.0, Ascends-weaker above other weaker xs h.1)

pub IsDistinct-front : {X : Type 0} (same : X → X → Bool) (xs ys : List X) → IsDistinct same (xs ++ ys) → IsDistinct same xs
unfolding IsDistinct
IsDistinct-front same [] ys h = tt
IsDistinct-front same (x ∷ xs) ys h = (all_left (λ y. same x y ≡ false) xs ys h.0, IsDistinct-front same xs ys h.1)

pub IsDistinct-filter : {X : Type 0} (same : X → X → Bool) (p : X → Bool) (xs : List X) → IsDistinct same xs → IsDistinct same (filter p xs)
unfolding IsDistinct
IsDistinct-filter same p [] h = tt
IsDistinct-filter same p (x ∷ xs) h = by_answer (p x) (all_filter (λ y. same x y ≡ false) p xs h.0) (IsDistinct-filter same p xs h.1)
  where
    by_answer : (b : Bool) → AllByRecursion (λ y. same x y ≡ false) (filter p xs) → IsDistinct same (filter p xs)
        → IsDistinct same (cond b (x ∷ filter p xs) (filter p xs))
    by_answer true g k = (g, k)
    by_answer false g k = k

pub IsDistinct-append : {X : Type 0} (same : X → X → Bool) (xs ys : List X) → IsDistinct same xs → IsDistinct same ys
    → AllByRecursion (λ x. AllByRecursion (λ y. same x y ≡ false) ys) xs → IsDistinct same (xs ++ ys)
unfolding IsDistinct
IsDistinct-append same [] ys u v h = v
IsDistinct-append same (x ∷ xs) ys u v h = (all_append (λ y. same x y ≡ false) xs ys u.0 h.0, IsDistinct-append same xs ys u.1 v h.1)

pub IsDistinct-map : {X Y : Type 0} (other : X → X → Bool) (same : Y → Y → Bool) (f : X → Y)
    → ((x y : X) → other x y ≡ false → same (f x) (f y) ≡ false) → (xs : List X) → IsDistinct other xs → IsDistinct same (map f xs)
unfolding IsDistinct
IsDistinct-map other same f h [] d = tt
IsDistinct-map other same f h (x ∷ xs) d =
    (all_map (λ y. other x y ≡ false) (λ y. same (f x) y ≡ false) f (h x) xs d.0, IsDistinct-map other same f h xs d.1)

pub strictly-append : {X : Type 0} (cmp : X → X → Ordering) (xs ys : List X) → IsStrictlySortedBy cmp xs → IsStrictlySortedBy cmp ys
    → AllByRecursion (λ x. AllByRecursion (λ y. cmp x y ≡ Less) ys) xs → IsStrictlySortedBy cmp (xs ++ ys)
unfolding IsStrictlySortedBy
strictly-append cmp [] ys u v h = v
strictly-append cmp (x ∷ xs) ys u v h = (all_append (λ y. cmp x y ≡ Less) xs ys u.0 h.0, strictly-append cmp xs ys u.1 v h.1)
