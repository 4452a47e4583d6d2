-- The parts of an array's bytes, one after the other.
use Rattle.std.proofs.Common.{◌≡◌, ◌<◌, ◌≤◌, ◌+◌, ℕ, Bool, List, [], ◌∷◌, Some, None, length, take, drop, true, false, position, nat_lt, refl, ap, ◌∙◌, arith}
use Rattle.std.specs.List.{slice_split, position_or_len}
use Rattle.std.proofs.lemmas.Grind.{common_steps}
use Rattle.std.proofs.lemmas.List.Splits.{slice_split_first, slice_split_none}
use Rattle.std.proofs.lemmas.List.Sums.{fails_before_first}
use Rattle.number_values.specs.Arrays.{eights}

-- more than 8 bytes are 8 and others
pub eights_more : (bytes : List ℕ) → 8 < length bytes → eights bytes ≡ take 8 bytes ∷ eights (drop 8 bytes)
unfolding eights
eights_more (a ∷ b ∷ c ∷ d ∷ e ∷ f ∷ g ∷ h ∷ i ∷ bytes) l = refl
eights_more [] l = absurd (omega arith)
eights_more (a ∷ []) l = absurd (omega arith)
eights_more (a ∷ b ∷ []) l = absurd (omega arith)
eights_more (a ∷ b ∷ c ∷ []) l = absurd (omega arith)
eights_more (a ∷ b ∷ c ∷ d ∷ []) l = absurd (omega arith)
eights_more (a ∷ b ∷ c ∷ d ∷ e ∷ []) l = absurd (omega arith)
eights_more (a ∷ b ∷ c ∷ d ∷ e ∷ f ∷ []) l = absurd (omega arith)
eights_more (a ∷ b ∷ c ∷ d ∷ e ∷ f ∷ g ∷ []) l = absurd (omega arith)
eights_more (a ∷ b ∷ c ∷ d ∷ e ∷ f ∷ g ∷ h ∷ []) l = absurd (omega arith)

-- up to 8 bytes are one piece
pub eights_last : (bytes : List ℕ) → length bytes ≤ 8 → eights bytes ≡ bytes ∷ []
unfolding eights
eights_last (a ∷ b ∷ c ∷ d ∷ e ∷ f ∷ g ∷ h ∷ i ∷ bytes) l = absurd (omega arith)
eights_last [] l = refl
eights_last (a ∷ []) l = refl
eights_last (a ∷ b ∷ []) l = refl
eights_last (a ∷ b ∷ c ∷ []) l = refl
eights_last (a ∷ b ∷ c ∷ d ∷ []) l = refl
eights_last (a ∷ b ∷ c ∷ d ∷ e ∷ []) l = refl
eights_last (a ∷ b ∷ c ∷ d ∷ e ∷ f ∷ []) l = refl
eights_last (a ∷ b ∷ c ∷ d ∷ e ∷ f ∷ g ∷ []) l = refl
eights_last (a ∷ b ∷ c ∷ d ∷ e ∷ f ∷ g ∷ h ∷ []) l = refl

-- there is always a piece
pub eights_some : (bytes : List ℕ) → 0 < length (eights bytes)
eights_some bytes = go (nat_lt 8 (length bytes)) refl
  where
    above : (n : ℕ) → nat_lt 8 n ≡ true → 8 < n
    above n h = grind arith

    not_above : (n : ℕ) → nat_lt 8 n ≡ false → n ≤ 8
    not_above n h = grind arith

    go : (b : Bool) → nat_lt 8 (length bytes) ≡ b → 0 < length (eights bytes)
    go true h = let e = ap (λ ps. length ps) (eights_more bytes (above (length bytes) h)) in omega arith
    go false h = let e = ap (λ ps. length ps) (eights_last bytes (not_above (length bytes) h)) in omega arith

-- the first part ends at the first element that passes
pub split_found : (p : ℕ → Bool) (bytes : List ℕ) (at : ℕ) → position p bytes ≡ Some at → slice_split p bytes ≡ take at bytes ∷ slice_split p (drop (at + 1) bytes)
split_found p bytes at h =
    let found : position_or_len p bytes ≡ at = grind (arith, common_steps) in
    let inside : position_or_len p bytes < length bytes = grind (arith, common_steps) in
    slice_split_first p bytes 0 inside ∙ ap (λ k. take k bytes ∷ slice_split p (drop (k + 1) bytes)) found

-- where none passes, there is one part
pub split_not_found : (p : ℕ → Bool) (bytes : List ℕ) → position p bytes ≡ None → slice_split p bytes ≡ bytes ∷ []
split_not_found p bytes h =
    let past : length bytes ≤ position_or_len p bytes = grind (arith, common_steps) in
    slice_split_none p bytes (λ k d l. fails_before_first p bytes k d (omega arith))
