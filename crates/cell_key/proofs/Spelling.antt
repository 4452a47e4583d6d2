use Rattle.std.proofs.Common.{◌≡◌, ℕ, zero, suc, ◌+◌, ◌*◌, ◌/◌, ◌%◌, ◌≤◌, ◌<◌, ◌==◌, Bool, true, false, cond, List, [], ◌∷◌, ◌++◌, length, drop, slice_index, Option, Some, None, Result, Ok, Err, refl, sym, ◌∙◌, ap, arith, append_assoc, drop-drop, nat_le, codes}
use Rattle.std.specs.Prelude.{MatchResult}
use Rattle.std.proofs.lemmas.Bool.{and_parts, ne_eqb}
use Rattle.hex.specs.Hex.{IsBytes, decode_pairs, decode_sized, encode_lower, encode_with, hex_digit_value, lower_digits}
use Rattle.hex.specs.declared.error.FromHexError.{FromHexError}
use Rattle.hex.specs.declared.error.FromHexError.TheVariants.{InvalidHexCharacter}
use Rattle.hex.proofs.HexLemmas.{IsDigits-lower_digits}
use Rattle.cell_key.specs.Escape.{escape_of, is_kept, put, read_on, first_spelling, unescape_from, behind_backslash, is_printable, is_read, pair_byte, with_more}

-- bytes in front of what is read
abbrev pub put_all : List ℕ → Result (List ℕ) ℕ → Result (List ℕ) ℕ
put_all front (Ok bs) = Ok (front ++ bs)
put_all front (Err at) = Err at

-- passing over bytes
pub passed : (bs : List ℕ) (at k : ℕ) → k ≤ length bs → unescape_from bs at k ≡ unescape_from (drop k bs) (at + k) 0
passed [] at zero h = refl
passed [] at (suc k) h = refl
passed (b ∷ bs) at zero h = ap (λ n. unescape_from (b ∷ bs) n 0) (omega arith)
passed (b ∷ bs) at (suc k) h = passed bs (at + 1) k (omega arith) ∙ ap (λ n. unescape_from (drop k bs) n 0) (omega arith)

-- with how many bytes
more_is : (n b more : ℕ) (o : Option ℕ) → with_more n o ≡ Some (b, more) → more ≡ n
more_is n b more None e = cc
more_is n b more (Some v) e = let k : (v, n) ≡ (b, more) = cc in sym (ap (λ (s : ℕ × ℕ). s.1) k)

behind_within : (bs : List ℕ) (b more : ℕ) → with_more 3 (behind_backslash bs) ≡ Some (b, more) → more ≤ length bs
behind_within [] b more e = cc
behind_within (x ∷ []) b more e = cc
behind_within (x ∷ y ∷ []) b more e = cc
behind_within (x ∷ h ∷ l ∷ rest) b more e =
    let three = more_is 3 b more (cond (x == 120) (pair_byte h l) None) e in omega arith

plain_more : (c b more : ℕ) (t : Bool) → cond {A = Option (ℕ × ℕ)} t (Some (c, 0)) None ≡ Some (b, more) → more ≡ 0
plain_more c b more true e = let k : (c, 0) ≡ (b, more) = cc in sym (ap (λ (s : ℕ × ℕ). s.1) k)
plain_more c b more false e = cc

-- how long a spelling is
pub spelled_within : (text : List ℕ) (b more : ℕ) → first_spelling text ≡ Some (b, more) → more < length text
spelled_within [] b more e = cc
spelled_within (c ∷ bs) b more e =
    let by_answer : (t : Bool) → cond t (with_more 3 (behind_backslash bs)) (cond (is_read c) (Some (c, 0)) None) ≡ Some (b, more) → more < length (c ∷ bs) = λ t. elim t as (λ t. cond t (with_more 3 (behind_backslash bs)) (cond (is_read c) (Some (c, 0)) None) ≡ Some (b, more) → more < length (c ∷ bs)) [
      | true ↦ λ e. let w = behind_within bs b more e in omega arith
      | false ↦ λ e.
          let z = plain_more c b more (is_read c) e in omega arith
    ] in by_answer (c == 92) e

one_more : (n : ℕ) → 1 + n ≡ suc n
one_more n = omega arith

-- one byte more
pub spelled_on : (text : List ℕ) (at b more : ℕ) → first_spelling text ≡ Some (b, more)
    → unescape_from text at 0 ≡ put b (unescape_from (drop (1 + more) text) (at + (1 + more)) 0)
spelled_on [] at b more e = cc
spelled_on (c ∷ bs) at b more e =
    let w = spelled_within (c ∷ bs) b more e in
    let d : drop (1 + more) (c ∷ bs) ≡ drop more bs = ap (λ n. drop n (c ∷ bs)) (one_more more) in
    ap (λ s. read_on at s (unescape_from bs (at + 1))) e
    ∙ ap (put b) (passed bs (at + 1) more (omega arith) ∙ ap (λ n. unescape_from (drop more bs) n 0) (omega arith) ∙ ap (λ t. unescape_from t (at + (1 + more)) 0) (sym d))

pub put_all-put : (bs : List ℕ) (b : ℕ) (r : Result (List ℕ) ℕ) → put_all (bs ++ b ∷ []) r ≡ put_all bs (put b r)
put_all-put bs b (Ok rest) = ap Ok (append_assoc bs (b ∷ []) rest)
put_all-put bs b (Err at) = refl

pub unescape_more : (text bytes : List ℕ) (at b more : ℕ) (whole : Result (List ℕ) ℕ) → first_spelling (drop at text) ≡ Some (b, more)
    → put_all bytes (unescape_from (drop at text) at 0) ≡ whole
    → put_all (bytes ++ b ∷ []) (unescape_from (drop (at + (1 + more)) text) (at + (1 + more)) 0) ≡ whole
unescape_more text bytes at b more whole e i =
    put_all-put bytes b _
    ∙ ap (put_all bytes) (ap (put b) (ap (λ t. unescape_from t (at + (1 + more)) 0) (sym (drop-drop (1 + more) at text))) ∙ sym (spelled_on (drop at text) at b more e))
    ∙ i

-- ---- two digits

pair_some : (h l x y : ℕ) → hex_digit_value h ≡ Some x → hex_digit_value l ≡ Some y → decode_sized (h ∷ l ∷ []) 1 ≡ Ok ((x * 16 + y) ∷ [])
unfolding decode_pairs
pair_some h l x y eh el = rw (eh, el) refl

pair_no_high : (h l : ℕ) → hex_digit_value h ≡ None → decode_sized (h ∷ l ∷ []) 1 ≡ Err (InvalidHexCharacter h 0)
unfolding decode_pairs
pair_no_high h l eh = rw eh refl

pair_no_low : (h l x : ℕ) → hex_digit_value h ≡ Some x → hex_digit_value l ≡ None → decode_sized (h ∷ l ∷ []) 1 ≡ Err (InvalidHexCharacter l 1)
unfolding decode_pairs
pair_no_low h l x eh el = rw (eh, el) refl

abbrev Decoded : ℕ → ℕ → List ℕ → Result (Unit {0}) FromHexError → Type 0
Decoded h l out r = MatchResult (decode_sized (h ∷ l ∷ []) 1) (λ bytes. (r ≡ Ok tt) × (out ≡ bytes)) (λ e. r ≡ Err e)

abbrev Found : Option ℕ → List ℕ → Result (Unit {0}) FromHexError → Type 0
Found o out r = MatchResult r (λ _. Some (slice_index out 0) ≡ o) (λ _. None ≡ o)

pub pair_found : (h l : ℕ) (out : List ℕ) (r : Result (Unit {0}) FromHexError) → Decoded h l out r → Found (pair_byte h l) out r
pair_found h l out r m =
    let by_digits : (o p : Option ℕ) → hex_digit_value h ≡ o → hex_digit_value l ≡ p → Found (pair_byte h l) out r = λ o. λ p. elim o as (λ o. hex_digit_value h ≡ o → hex_digit_value l ≡ p → Found (pair_byte h l) out r) [
      | None ↦ λ eh. λ el. let k = rw (pair_no_high h l eh) at m in rw (k, eh) refl
      | Some x ↦ λ eh. elim p as (λ p. hex_digit_value l ≡ p → Found (pair_byte h l) out r) [
        | None ↦ λ el. let k = rw (pair_no_low h l x eh el) at m in rw (k, eh, el) refl
        | Some y ↦ λ el. let k = rw (pair_some h l x y eh el) at m in rw (k.0, k.1, eh, el) refl
      ]
    ] in by_digits (hex_digit_value h) (hex_digit_value l) refl refl

-- ---- the round trip

kept_spelled : (b : ℕ) (rest : List ℕ) → is_kept b ≡ true → first_spelling (b ∷ rest) ≡ Some (b, 0)
kept_spelled b rest h =
    let slash : b ≡ 92 → ⊥ = λ e. let k : false ≡ true = rw e at h in cc in
    let last : b ≡ 127 → ⊥ = λ e. let k : false ≡ true = rw e at h in cc in
    let low : nat_le 33 b ≡ true = (and_parts (nat_le 33 b) (nat_le b 126) (and_parts (is_printable b) _ h).0).0 in
    let s : (b == 92) ≡ false = ne_eqb b 92 slash in
    let t : (b == 127) ≡ false = ne_eqb b 127 last in
    rw (s, low, t) refl

escaped_spelled : (b : ℕ) (rest : List ℕ) → b < 256 → first_spelling (codes "\\x" ++ encode_lower (b ∷ []) ++ rest) ≡ Some (b, 3)
unfolding encode_with
escaped_spelled b rest h =
    let high : hex_digit_value (slice_index lower_digits (b / 16)) ≡ Some (b / 16) = IsDigits-lower_digits (b / 16) (omega arith) in
    let low : hex_digit_value (slice_index lower_digits (b % 16)) ≡ Some (b % 16) = IsDigits-lower_digits (b % 16) (omega arith) in
    let whole : b / 16 * 16 + b % 16 ≡ b = omega arith in
    rw (high, low, whole) refl

behind_escape : (b : ℕ) (rest : List ℕ) → drop (1 + 3) (codes "\\x" ++ encode_lower (b ∷ []) ++ rest) ≡ rest
unfolding encode_with
behind_escape b rest = refl

pub round_trip : (b : List ℕ) (at : ℕ) → IsBytes b → unescape_from (escape_of b) at 0 ≡ Ok b
round_trip [] at h = refl
round_trip (b ∷ bs) at h =
    let rest = escape_of bs in
    let by_answer : (t : Bool) → is_kept b ≡ t → unescape_from (cond t (b ∷ []) (codes "\\x" ++ encode_lower (b ∷ [])) ++ escape_of bs) at 0 ≡ Ok (b ∷ bs) = λ t. elim t as (λ t. is_kept b ≡ t → unescape_from (cond t (b ∷ []) (codes "\\x" ++ encode_lower (b ∷ [])) ++ escape_of bs) at 0 ≡ Ok (b ∷ bs)) [
      | true ↦ λ e. spelled_on (b ∷ rest) at b 0 (kept_spelled b rest e) ∙ ap (put b) (round_trip bs (at + (1 + 0)) (λ i. h (suc i)))
      | false ↦ λ e. spelled_on (codes "\\x" ++ encode_lower (b ∷ []) ++ rest) at b 3 (escaped_spelled b rest (h 0)) ∙ ap (put b) (ap (λ t. unescape_from t (at + (1 + 3)) 0) (behind_escape b rest) ∙ round_trip bs (at + (1 + 3)) (λ i. h (suc i)))
    ] in by_answer (is_kept b) refl
