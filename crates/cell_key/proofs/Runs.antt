-- Texts are read and written a run of bytes at a time.
use Rattle.std.proofs.Common.{◌≡◌, ℕ, suc, ◌+◌, Bool, true, false, cond, not, ◌==◌, List, [], ◌∷◌, ◌++◌, take, drop, refl, sym, ◌∙◌, ap, arith, append_assoc, append-nil, drop-drop, length, nat_lt, Some, None, Result, Ok, Err}
use Rattle.std.specs.List.{position, prefix_len}
use Rattle.std.specs.Option.{unwrap_or}
use Rattle.std.proofs.lemmas.Bool.{and_parts}
use Rattle.std.proofs.lemmas.Bool.Decides.{nat_tests}
use Rattle.std.proofs.lemmas.List.Sums.{prefix_len-le-length}
use Rattle.cell_key.specs.Escape.{escape_of, is_kept, is_read, put, first_spelling, unescape_from, unescape_of}
use Rattle.cell_key.specs.Runs.{digits_of, is_plain, kept_run, plain_run}
use Rattle.cell_key.proofs.Spelling.{put_all, spelled_on}

-- ---- how long a run is

twice : (p : ℕ → Bool) (xs : List ℕ) → prefix_len (λ x. not (not (p x))) xs ≡ prefix_len p xs
twice p [] = refl
twice p (x ∷ xs) = here (p x) (twice p xs)
  where
    here : (t : Bool) → prefix_len (λ x. not (not (p x))) xs ≡ prefix_len p xs
        → cond (not (not t)) (1 + prefix_len (λ x. not (not (p x))) xs) 0 ≡ cond t (1 + prefix_len p xs) 0
    here true e = ap (λ n. 1 + n) e
    here false e = refl

-- up to the first element that does not pass, or all
pub first_or_all : (p : ℕ → Bool) (xs : List ℕ) → unwrap_or (position (λ x. not (p x)) xs) (length xs) ≡ prefix_len p xs
first_or_all p xs =
    rw (twice p xs) (here (nat_lt (prefix_len p xs) (length xs)) refl)
  where
    here : (t : Bool) → nat_lt (prefix_len p xs) (length xs) ≡ t → unwrap_or (cond t (Some (prefix_len p xs)) None) (length xs) ≡ prefix_len p xs
    here true e = refl
    here false e = let w = prefix_len-le-length p xs in grind (arith, nat_tests, e, w)

-- ---- reading

not_true : (t : Bool) → not t ≡ true → t ≡ false
not_true true e = cc
not_true false e = refl

plain_spelled : (b : ℕ) (rest : List ℕ) → is_plain b ≡ true → first_spelling (b ∷ rest) ≡ Some (b, 0)
plain_spelled b rest h =
    let parts = and_parts (is_read b) (not (b == 92)) h in
    let slash : (b == 92) ≡ false = not_true (b == 92) parts.1 in
    let read : is_read b ≡ true = parts.0 in
    rw (slash, read) refl

put_put_all : (b : ℕ) (bs : List ℕ) (r : Result (List ℕ) ℕ) → put b (put_all bs r) ≡ put_all (b ∷ bs) r
put_put_all b bs (Ok rest) = refl
put_put_all b bs (Err at) = refl

put_all_none : (r : Result (List ℕ) ℕ) → put_all [] r ≡ r
put_all_none (Ok rest) = refl
put_all_none (Err at) = refl

put_all_all : (front bs : List ℕ) (r : Result (List ℕ) ℕ) → put_all front (put_all bs r) ≡ put_all (front ++ bs) r
put_all_all front bs (Ok rest) = ap Ok (sym (append_assoc front bs rest))
put_all_all front bs (Err at) = refl

-- what a text spells that begins with a run of plain bytes
run_read : (text : List ℕ) (at : ℕ) →
    unescape_from text at 0 ≡ put_all (take (plain_run text) text) (unescape_from (drop (plain_run text) text) (at + plain_run text) 0)
run_read [] at = refl
run_read (b ∷ bs) at = here (is_plain b) refl (run_read bs (at + (1 + 0)))
  where
    here : (t : Bool) → is_plain b ≡ t
        → unescape_from bs (at + (1 + 0)) 0 ≡ put_all (take (plain_run bs) bs) (unescape_from (drop (plain_run bs) bs) (at + (1 + 0) + plain_run bs) 0)
        → unescape_from (b ∷ bs) at 0 ≡ put_all (take (cond t (1 + plain_run bs) 0) (b ∷ bs)) (unescape_from (drop (cond t (1 + plain_run bs) 0) (b ∷ bs)) (at + cond t (1 + plain_run bs) 0) 0)
    here true e more =
        let k : 1 + plain_run bs ≡ suc (plain_run bs) = omega arith in
        rw k
        (spelled_on (b ∷ bs) at b 0 (plain_spelled b bs e)
        ∙ ap (put b) more
        ∙ put_put_all b (take (plain_run bs) bs) _
        ∙ ap (λ n. put_all (b ∷ take (plain_run bs) bs) (unescape_from (drop (plain_run bs) bs) n 0)) (omega arith))
    here false e more = sym (put_all_none _ ∙ ap (λ n. unescape_from (b ∷ bs) n 0) (omega arith))

-- the first run
pub first_run : (text bytes : List ℕ) (at : ℕ) → at ≡ plain_run text → bytes ≡ take at text
    → put_all bytes (unescape_from (drop at text) at 0) ≡ unescape_of text
first_run text bytes at n e =
    rw (e, n)
    (ap (λ k. put_all (take (plain_run text) text) (unescape_from (drop (plain_run text) text) k 0)) (omega arith)
    ∙ sym (run_read text 0))

-- a run more
pub run_more : (text rest bytes : List ℕ) (at run : ℕ) (more : List ℕ) (whole : Result (List ℕ) ℕ)
    → rest ≡ drop at text → run ≡ plain_run rest → more ≡ bytes ++ take run rest
    → put_all bytes (unescape_from (drop at text) at 0) ≡ whole
    → put_all more (unescape_from (drop (at + run) text) (at + run) 0) ≡ whole
run_more text rest bytes at run more whole r n e h =
    rw e
    (sym (put_all_all bytes (take run rest) _)
    ∙ ap (put_all bytes)
    (ap (λ t. put_all (take run rest) (unescape_from t (at + run) 0)) (sym (drop-drop run at text) ∙ ap (drop run) (sym r))
    ∙ ap (λ k. put_all (take k rest) (unescape_from (drop k rest) (at + k) 0)) n
    ∙ sym (run_read rest at)
    ∙ ap (λ t. unescape_from t at 0) r)
    ∙ h)

-- ---- writing

-- the spelling of what stands behind a run of bytes that are their own spellings
abbrev behind_run : List ℕ → List ℕ
behind_run [] = []
behind_run (b ∷ bs) = digits_of b ++ escape_of bs

escape_runs : (bytes : List ℕ) → escape_of bytes ≡ take (kept_run bytes) bytes ++ behind_run (drop (kept_run bytes) bytes)
escape_runs [] = refl
escape_runs (b ∷ bs) = here (is_kept b) (escape_runs bs)
  where
    here : (t : Bool) → escape_of bs ≡ take (kept_run bs) bs ++ behind_run (drop (kept_run bs) bs)
        → cond t (b ∷ []) (digits_of b) ++ escape_of bs
        ≡ take (cond t (1 + kept_run bs) 0) (b ∷ bs) ++ behind_run (drop (cond t (1 + kept_run bs) 0) (b ∷ bs))
    here true more =
        let k : 1 + kept_run bs ≡ suc (kept_run bs) = omega arith in
        rw k (ap (λ l. b ∷ l) more)
    here false more = refl

-- a run more, and the byte behind it
pub run_written : (text rest : List ℕ) (b : ℕ) (more : List ℕ) → drop (kept_run rest) rest ≡ b ∷ more
    → text ++ escape_of rest ≡ ((text ++ take (kept_run rest) rest) ++ digits_of b) ++ escape_of more
run_written text rest b more e =
    rw (escape_runs rest, e) (simp append_assoc)

-- the last run
pub end_written : (text rest : List ℕ) → drop (kept_run rest) rest ≡ []
    → text ++ escape_of rest ≡ text ++ take (kept_run rest) rest
end_written text rest e =
    ap (λ l. text ++ l) (escape_runs rest ∙ rw e (append-nil _))
