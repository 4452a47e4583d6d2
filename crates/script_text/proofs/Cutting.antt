-- The first line of a text, and what stands before the separator.
use Rattle.std.proofs.Common.{◌≡◌, ℕ, zero, suc, ◌+◌, ◌-◌, ◌<◌, ◌==◌, Bool, true, false, not, cond, if◌then◌else◌, map, List, [], ◌∷◌, ◌++◌, length, take, drop, slice_index, position, Some, None, refl, sym, ◌∙◌, ap, arith, append_assoc, length-append, add-one}
use Rattle.std.specs.List.{concat, onto_first, position_or_len, before_first, after_first}
use Rattle.std.proofs.lemmas.List.{take_at}
use Rattle.std.proofs.lemmas.List.Quantifiers.{position-Some}
use Rattle.memchr.specs.Find.{is_byte}
use Rattle.script_text.specs.Code.{newline}
use Rattle.script_text.specs.Lines.{config_bytes, content, is_separator, raw_lines, script_lines}
use Rattle.script_text.proofs.Positions.{fails_everywhere}

raw_lines-ended : (text : List ℕ) (k : ℕ) → k < length text → ((i : ℕ) → i < k → (slice_index text i == newline) ≡ false) → (slice_index text k == newline) ≡ true
    → raw_lines text ≡ take (suc k) text ∷ raw_lines (drop (suc k) text)
raw_lines-ended [] k lt before is = absurd (omega arith)
raw_lines-ended (b ∷ bs) zero lt before is = rw is refl
raw_lines-ended (b ∷ bs) (suc k) lt before is =
    let e : (b == newline) ≡ false = before 0 (omega arith) in
    rw e (ap (onto_first b) (raw_lines-ended bs k (omega arith) (λ i h. before (suc i) (omega arith)) is))

-- the first line ends with the first newline
pub raw_lines-first : (text : List ℕ) (k : ℕ) → Some k ≡ position (is_byte newline) text → raw_lines text ≡ take (k + 1) text ∷ raw_lines (drop (k + 1) text)
raw_lines-first text k e =
    let at = position-Some (is_byte newline) text k 0 (sym e) in
    rw add-one (raw_lines-ended text k at.0 at.2 at.1)

raw_lines-whole : (text : List ℕ) → 0 < length text → ((i : ℕ) → i < length text → (slice_index text i == newline) ≡ false) → raw_lines text ≡ text ∷ []
raw_lines-whole [] some each = absurd (omega arith)
raw_lines-whole (b ∷ []) some each =
    let e : (b == newline) ≡ false = each 0 (omega arith) in rw e refl
raw_lines-whole (b ∷ c ∷ bs) some each =
    let e : (b == newline) ≡ false = each 0 (omega arith) in
    rw e (ap (onto_first b) (raw_lines-whole (c ∷ bs) (omega arith) (λ i h. each (suc i) (omega arith))))

-- a text without a newline is one line
pub raw_lines-last : (text : List ℕ) → 0 < length text → None ≡ position (is_byte newline) text → raw_lines text ≡ text ∷ []
raw_lines-last text some e = raw_lines-whole text some (fails_everywhere (is_byte newline) text (sym e))

concat-onto_first : (b : ℕ) (lines : List (List ℕ)) → concat (onto_first b lines) ≡ b ∷ concat lines
concat-onto_first b [] = refl
concat-onto_first b (l ∷ lines) = refl

-- the lines of a text, joined, are the text
pub concat-raw_lines : (text : List ℕ) → concat (raw_lines text) ≡ text
concat-raw_lines [] = refl
concat-raw_lines (b ∷ bs) = by (b == newline) (ap (λ rest. b ∷ rest) (concat-raw_lines bs))
  where
    by : (t : Bool) → b ∷ concat (raw_lines bs) ≡ b ∷ bs → concat (if t then (b ∷ []) ∷ raw_lines bs else onto_first b (raw_lines bs)) ≡ b ∷ bs
    by true rest = rest
    by false rest = concat-onto_first b (raw_lines bs) ∙ rest

-- an element that fails
module _ {X : Type 0} (p : X → Bool) where
  before_first-no : (x : X) (xs : List X) → p x ≡ false → before_first p (x ∷ xs) ≡ x ∷ before_first p xs
  before_first-no x xs e =
      let on : 1 + position_or_len p xs ≡ suc (position_or_len p xs) = omega arith in
      ap (λ t. take (cond (not t) (1 + position_or_len p xs) 0) (x ∷ xs)) e ∙ ap (λ n. take n (x ∷ xs)) on

  after_first-no : (x : X) (xs : List X) → p x ≡ false → after_first p (x ∷ xs) ≡ after_first p xs
  after_first-no x xs e =
      let on : 1 + position_or_len p xs + 1 ≡ suc (position_or_len p xs + 1) = omega arith in
      ap (λ t. drop (cond (not t) (1 + position_or_len p xs) 0 + 1) (x ∷ xs)) e ∙ ap (λ n. drop n (x ∷ xs)) on

-- what stands before the rest of an input, with no separator in it
pub record IsFront (input front rest : List ℕ) : Type 0 where
  pub whole : input ≡ front ++ rest
  pub config : config_bytes input ≡ front ++ config_bytes rest
  pub script : script_lines input ≡ script_lines rest

-- a line more in front
pub IsFront-more : (input front rest : List ℕ) → IsFront input front rest → (line behind : List ℕ) → raw_lines rest ≡ line ∷ raw_lines behind → rest ≡ line ++ behind → is_separator line ≡ false
    → IsFront input (take (length input - length behind) input) behind
IsFront-more input front rest f line behind lines whole is =
    let on : input ≡ (front ++ line) ++ behind = f.whole ∙ ap (λ r. front ++ r) whole ∙ sym (append_assoc front line behind) in
    let cut : take (length input - length behind) input ≡ front ++ line = rw on (take_at (front ++ line) behind _ (omega (arith, length-append (front ++ line) behind))) in
    rw cut (record {
      whole = on;
      config = f.config ∙ ap (λ ls. front ++ concat (before_first is_separator ls)) lines ∙ ap (λ ls. front ++ concat ls) (before_first-no is_separator line (raw_lines behind) is) ∙ sym (append_assoc front line (config_bytes behind));
      script = f.script ∙ ap (λ ls. map content (after_first is_separator ls)) lines ∙ ap (map content) (after_first-no is_separator line (raw_lines behind) is);
    })
