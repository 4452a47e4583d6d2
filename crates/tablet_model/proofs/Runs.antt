-- Runs of which each is at least twice as long as the next are few.
use Rattle.std.proofs.Common.{◌≡◌, ℕ, suc, ◌+◌, ◌*◌, ◌^◌, ◌≤◌, List, [], ◌∷◌, ◌++◌, length, get_or, refl, arith}
use Rattle.std.proofs.Math.Nat.{pow-succ'}
use Rattle.std.proofs.lemmas.List.Sums.{sum_by-cons}
use Rattle.std.specs.List.{sum_by}
use Rattle.tablet_model.specs.Runs.{AreHalving, first_size}

module _ {X : Type 0} (size : X → ℕ) where
  -- the first is as long as a power says
  long_first : (x : X) (xs : List X) → AreHalving size (x ∷ xs) → 2 ^ length xs ≤ size x
  long_first x [] h = h.0
  long_first x (y ∷ ys) h =
      let twice = h.1 in
      let behind = long_first y ys h.2 in
      let power = pow-succ' 2 (length ys) in
      omega (arith, twice, behind, power)

  -- how many there are, by how long they are together
  pub few_runs : (xs : List X) → AreHalving size xs → 2 ^ length xs ≤ sum_by size xs + 1
  few_runs [] h = omega arith
  few_runs (x ∷ xs) h =
      let here = long_first x xs h in
      let behind = few_runs xs h.2 in
      let power = pow-succ' 2 (length xs) in
      let whole = sum_by-cons size x xs in
      omega (arith, here, behind, power, whole)

  first_front : (xs ys : List X) → first_size size xs ≤ first_size size (xs ++ ys)
  first_front [] ys = omega arith
  first_front (x ∷ xs) ys = omega arith

  -- the first ones of such runs are such runs
  pub halving_front : (xs ys : List X) → AreHalving size (xs ++ ys) → AreHalving size xs
  halving_front [] ys h = tt
  halving_front (x ∷ xs) ys h =
      let twice = h.1 in
      let front = first_front xs ys in
      (h.0, omega (arith, twice, front), halving_front xs ys h.2)

  -- one more at the end, at most half as long as the last
  pub halving_more : (xs : List X) (z : X) → AreHalving size xs → 1 ≤ size z → ((i : ℕ) → i + 1 ≡ length xs → 2 * size z ≤ size (get_or xs i z)) → AreHalving size (xs ++ z ∷ [])
  halving_more [] z h some half = (some, omega arith, tt)
  halving_more (x ∷ []) z h some half = (h.0, half 0 refl, (some, omega arith, tt))
  halving_more (x ∷ y ∷ ys) z h some half = (h.0, h.1, halving_more (y ∷ ys) z h.2 some (λ i e. half (suc i) (omega (arith, e))))

  -- one at most half as long as the last, behind it
  pub halving_pair : (xs : List X) (y z : X) → AreHalving size (xs ++ y ∷ []) → 1 ≤ size z → 2 * size z ≤ size y → AreHalving size ((xs ++ y ∷ []) ++ z ∷ [])
  halving_pair [] y z h some half = (h.0, half, (some, omega arith, tt))
  halving_pair (x ∷ []) y z h some half = (h.0, h.1, halving_pair [] y z h.2 some half)
  halving_pair (x ∷ x' ∷ xs) y z h some half = (h.0, h.1, halving_pair (x' ∷ xs) y z h.2 some half)
