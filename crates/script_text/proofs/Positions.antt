-- The first place of a list that passes a test, by index.
use Rattle.std.proofs.Common.{◌≡◌, ℕ, ◌<◌, ◌≤◌, Bool, false, List, length, slice_index, Option, Some, None, position, sym, arith}
use Rattle.std.specs.List.{position_or_len}
use Rattle.std.proofs.lemmas.Bool.{false_from_ne_true}
use Rattle.std.proofs.lemmas.Grind.{common_steps}
use Rattle.std.proofs.lemmas.List.Sums.{position_or_len_is, fails_before_first}
use Rattle.memchr.specs.Find.{IsFirstByte}

-- what a search for a byte gives is the position
pub position_of : (p : ℕ → Bool) (xs : List ℕ) (found : Option ℕ) → IsFirstByte p xs found → found ≡ position p xs
position_of p xs None nowhere =
    let end : position_or_len p xs ≡ length xs = position_or_len_is p xs (length xs) 0 (omega arith) (λ k lt. false_from_ne_true _ (nowhere k (omega arith) lt)) (λ lt. absurd (omega arith)) in
    grind (arith, common_steps)
position_of p xs (Some k) h =
    let at : position_or_len p xs ≡ k = position_or_len_is p xs k 0 (omega (arith, h.0.high)) (λ i lt. false_from_ne_true _ (h.0.before i (omega arith) lt)) (λ lt. h.1) in
    let inside : k < length xs = h.0.high in
    grind (arith, common_steps)

-- where there is no position, each element fails
pub fails_everywhere : (p : ℕ → Bool) (xs : List ℕ) → position p xs ≡ None → (k : ℕ) → k < length xs → p (slice_index xs k) ≡ false
fails_everywhere p xs e k lt =
    let end : length xs ≤ position_or_len p xs = grind (arith, common_steps) in
    fails_before_first p xs k 0 (omega arith)

-- a position is the length of what stands before it
pub position_or_len-at : (p : ℕ → Bool) (xs : List ℕ) (k : ℕ) → Some k ≡ position p xs → position_or_len p xs ≡ k
position_or_len-at p xs k e = let at : position p xs ≡ Some k = sym e in grind (arith, common_steps)
