-- A list that is split at the elements that pass a test, at the first of them.
use Rattle.std.proofs.Common.{◌≡◌, ℕ, suc, ◌+◌, ◌-◌, Bool, false, List, [], ◌∷◌, length, take, drop, position, Some, None, All, sym, ◌∙◌, ap, arith, add-one, refl}
use Rattle.std.specs.List.{slice_split}
use Rattle.std.proofs.lemmas.Grind.{common_steps}
use Rattle.std.proofs.lemmas.List.{take_rest}
use Rattle.std.proofs.lemmas.List.Quantifiers.{position-Some}
use Rattle.std.proofs.lemmas.List.Splits.{slice_split_first, slice_split_none}
use Rattle.script_text.proofs.Positions.{fails_everywhere, position_or_len-at}

pub split_at : (p : ℕ → Bool) (text : List ℕ) (k : ℕ) → Some k ≡ position p text → slice_split p text ≡ take k text ∷ slice_split p (drop (suc k) text)
split_at p text k e =
    let at = position_or_len-at p text k e in
    let inside = (position-Some p text k 0 (sym e)).0 in
    slice_split_first p text 0 (omega (arith, at, inside)) ∙ ap (λ n. take n text ∷ slice_split p (drop (n + 1) text)) at ∙ rw add-one refl

-- the same, as a slice to the end of the text has it
pub split_rest : (p : ℕ → Bool) (text : List ℕ) (k : ℕ) → Some k ≡ position p text
    → slice_split p text ≡ take k text ∷ slice_split p (take (length text - (k + 1)) (drop (k + 1) text))
split_rest p text k e = rw (take_rest text (k + 1), add-one) (split_at p text k e)

pub split_nowhere : (p : ℕ → Bool) (text : List ℕ) → None ≡ position p text → slice_split p text ≡ text ∷ []
split_nowhere p text e = slice_split_none p text each
  where
    each : All (λ x. p x ≡ false) text
    each k d lt = grind (arith, common_steps, fails_everywhere p text (sym e) k lt)
