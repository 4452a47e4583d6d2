-- The first word of a text.
use Rattle.std.proofs.Common.{◌≡◌, ℕ, zero, suc, ◌-◌, ◌<◌, ◌≤◌, Bool, true, false, not, List, [], ◌∷◌, length, take, drop, slice_index, position, Some, None, filter, refl, sym, ◌∙◌, ap, arith}
use Rattle.std.proofs.lemmas.Bool.{false≢true}
use Rattle.std.proofs.lemmas.Grind.{common_steps}
use Rattle.std.proofs.lemmas.List.{drop_all, take_rest}
use Rattle.std.proofs.lemmas.List.Quantifiers.{position-Some}
use Rattle.script_text.specs.Words.{is_blank, is_empty, words_of}
use Rattle.script_text.proofs.Positions.{fails_everywhere}
use Rattle.script_text.proofs.Splitting.{split_at, split_nowhere}

-- a byte that is no blank
abbrev pub is_inked : ℕ → Bool
is_inked b = not (is_blank b)

-- a word that has a byte
abbrev is_some_word : List ℕ → Bool
is_some_word word = not (is_empty word)

is_not : (b : Bool) → not b ≡ false → b ≡ true
is_not true e = refl
is_not false e = sym e

is_also_not : (b : Bool) → not b ≡ true → b ≡ false
is_also_not true e = sym e
is_also_not false e = refl

-- blanks in front change no word
words_of-drop : (text : List ℕ) (k : ℕ) → k ≤ length text → ((i : ℕ) → i < k → is_blank (slice_index text i) ≡ true) → words_of text ≡ words_of (drop k text)
words_of-drop text zero le each = refl
words_of-drop [] (suc k) le each = absurd (omega arith)
words_of-drop (b ∷ bs) (suc k) le each =
    let e : is_blank b ≡ true = each 0 (omega arith) in
    rw e (words_of-drop bs k (omega arith) (λ i h. each (suc i) (omega arith)))

-- blanks are no word
pub words_of-blank : (text : List ℕ) → None ≡ position is_inked text → words_of text ≡ []
words_of-blank text e =
    words_of-drop text (length text) (omega arith) (λ i lt. is_not _ (fails_everywhere is_inked text (sym e) i lt))
    ∙ ap words_of (drop_all (length text) text (omega arith))

-- a text has the words that begin at its first word
words_of-start : (text : List ℕ) (start : ℕ) → Some start ≡ position is_inked text → words_of text ≡ words_of (drop start text)
words_of-start text start e =
    let at = position-Some is_inked text start 0 (sym e) in
    words_of-drop text start (omega (arith, at.0)) (λ i lt. is_not _ (at.2 i lt))

-- a blank behind a word changes no word behind it
words_of-behind : (text : List ℕ) (k : ℕ) → k < length text → is_blank (slice_index text k) ≡ true → words_of (drop (suc k) text) ≡ words_of (drop k text)
words_of-behind [] k lt e = absurd (omega arith)
words_of-behind (b ∷ bs) zero lt e = rw e refl
words_of-behind (b ∷ bs) (suc k) lt e = words_of-behind bs k (omega arith) e

-- a word at the front ends before the first blank
words_of-ended : (text : List ℕ) (end : ℕ) → 0 < length text → is_blank (slice_index text 0) ≡ false → Some end ≡ position is_blank text → words_of text ≡ take end text ∷ words_of (drop end text)
words_of-ended [] end some first e = absurd (omega arith)
words_of-ended (b ∷ bs) zero some first e =
    let at : is_blank b ≡ true = (position-Some is_blank (b ∷ bs) zero 0 (sym e)).1 in absurd (false≢true (sym first ∙ at))
words_of-ended (b ∷ bs) (suc k) some first e =
    let at = position-Some is_blank (b ∷ bs) (suc k) 0 (sym e) in
    ap (filter is_some_word) (split_at is_blank (b ∷ bs) (suc k) e)
    ∙ ap (λ words. (b ∷ take k bs) ∷ words) (words_of-behind (b ∷ bs) (suc k) at.0 at.1)

-- or with the text
words_of-last : (text : List ℕ) → 0 < length text → None ≡ position is_blank text → words_of text ≡ text ∷ []
words_of-last [] some e = absurd (omega arith)
words_of-last (b ∷ bs) some e = ap (filter is_some_word) (split_nowhere is_blank (b ∷ bs) e)

-- what is left of a text from a place on
abbrev pub rest_from : ℕ → List ℕ → List ℕ
rest_from start text = take (length text - start) (drop start text)

record StartsWord (text rest : List ℕ) : Type 0 where
  some : 0 < length rest
  first : is_blank (slice_index rest 0) ≡ false
  words : words_of text ≡ words_of rest

starts_word : (text : List ℕ) (start : ℕ) → Some start ≡ position is_inked text → StartsWord text (rest_from start text)
starts_word text start e =
    let at = position-Some is_inked text start 0 (sym e) in
    let inside : start < length text = at.0 in
    let first : slice_index (drop start text) 0 ≡ slice_index text start = grind (arith, common_steps) in
    let inked : is_blank (slice_index text start) ≡ false = is_also_not _ at.1 in
    let long : 0 < length (drop start text) = grind (arith, common_steps) in
    rw (take_rest text start) (record { some = long; first = ap is_blank first ∙ inked; words = words_of-start text start e })

-- the first word of a text, and the words behind it
pub words_of-first : (text : List ℕ) (start end : ℕ) → Some start ≡ position is_inked text → Some end ≡ position is_blank (rest_from start text)
    → words_of text ≡ take end (rest_from start text) ∷ words_of (drop end (rest_from start text))
words_of-first text start end e f =
    let at = starts_word text start e in
    at.words ∙ words_of-ended (rest_from start text) end at.some at.first f

-- the only word of a text
pub words_of-only : (text : List ℕ) (start : ℕ) → Some start ≡ position is_inked text → None ≡ position is_blank (rest_from start text) → words_of text ≡ rest_from start text ∷ []
words_of-only text start e f =
    let at = starts_word text start e in
    at.words ∙ words_of-last (rest_from start text) at.some f
