-- A line that is read as a fetch asks for one entry at least.
use Rattle.std.proofs.Common.{◌≡◌, ℕ, ◌≤◌, ◌&&◌, Bool, true, false, List, [], ◌∷◌, Option, Some, None, refl, subst, arith, nat_le}
use Rattle.std.specs.Prelude.{if◌then◌else◌, option_map, codes}
use Rattle.std.specs.Str.{bytes_eq}
use Rattle.std.proofs.lemmas.Bool.Decides.{nat_tests}
use Rattle.script_text.specs.Grammar.{compact_of, with_no_more, fetch_of, is_comment, isolated_of, line_by_word, line_of, mutation_of, only_job, only_word, open_of, reading_of, scan_of, session_step_of, updates_of, files_onto}
use Rattle.script_text.specs.Numbers.{job_of, number_of, number_to, session_of}
use Rattle.script_text.specs.Reading.{◌>>=◌}
use Rattle.script_text.specs.Scans.{behind_families, behind_range, families_in, families_text, range_in, range_word}
use Rattle.script_text.specs.Words.{text_of, words_of}
use Rattle.script_text.specs.declared.line.Line.{Line}
use Rattle.script_text.specs.declared.line.Line.TheVariants.{Step, Scan, Session, Status}
use Rattle.script_text.specs.declared.line.SessionStep.{SessionStep}
use Rattle.script_text.specs.declared.line.SessionStep.TheVariants.{Fetch, Renew, Drop, Close}
use Rattle.tablet_steps.specs.declared.event.Event.TheVariants.{Freeze, Flush, CompactAll, Finish}

-- a fetch is of one entry at least
abbrev IsCounted : Line → Type 0
IsCounted (Session session (Fetch count)) = 1 ≤ count
IsCounted _ = Unit {0}

abbrev AllCounted : Option Line → Type 0
AllCounted None = Unit {0}
AllCounted (Some line) = IsCounted line

chosen : (b : Bool) (x y : Option Line) → AllCounted x → AllCounted y → AllCounted (if b then x else y)
chosen true x y h k = h
chosen false x y h k = k

bound : {A : Type 0} (o : Option A) (f : A → Option Line) → ((a : A) → AllCounted (f a)) → AllCounted (o >>= f)
bound None f h = tt
bound (Some a) f h = h a

mapped : {A : Type 0} (f : A → Line) → ((a : A) → IsCounted (f a)) → (o : Option A) → AllCounted (option_map f o)
mapped f h None = tt
mapped f h (Some a) = h a

at_end : (words : List (List ℕ)) (line : Option Line) → AllCounted line → AllCounted (with_no_more words line)
at_end [] line h = h
at_end (word ∷ words) line h = tt

mutation_counted : (words : List (List ℕ)) → AllCounted (mutation_of words)
unfolding mutation_of
mutation_counted [] = tt
mutation_counted (word ∷ words) = bound (text_of word) _ (λ row. bound (updates_of words) _ (λ updates. tt))

scan_counted : (words : List (List ℕ)) → AllCounted (scan_of words)
unfolding scan_of
scan_counted words =
    bound (range_in (range_word words)) _ (λ range. bound (families_in (families_text (behind_range words))) _
    (λ families. at_end (behind_families (behind_range words)) (Some (Scan range families)) tt))

open_counted : (words : List (List ℕ)) → AllCounted (open_of words)
unfolding open_of
open_counted [] = tt
open_counted (word ∷ words) =
    bound (session_of word) _ (λ session. bound (range_in (range_word words)) _ (λ range.
    bound (families_in (families_text (behind_range words))) _ (λ families.
    bound (isolated_of (behind_families (behind_range words))) _ (λ isolated. tt))))

-- a number up to a greatest one is 1 at least
number_counted : (most : ℕ) (text : List ℕ) (f : ℕ → Line) → ((n : ℕ) → 1 ≤ n → IsCounted (f n)) → AllCounted (number_to most text >>= (λ n. Some (f n)))
number_counted most text f h = go (number_of text)
  where
    at : (n : ℕ) (b : Bool) → b ≡ (nat_le 1 n && nat_le n most) → AllCounted ((if b then Some n else None) >>= (λ n. Some (f n)))
    at n true e = h n (grind (arith, nat_tests))
    at n false e = tt

    go : (o : Option ℕ) → AllCounted ((o >>= (λ n. if nat_le 1 n && nat_le n most then Some n else None)) >>= (λ n. Some (f n)))
    go None = tt
    go (Some n) = at n (nat_le 1 n && nat_le n most) refl

fetch_counted : (words : List (List ℕ)) → AllCounted (fetch_of words)
unfolding fetch_of
fetch_counted [] = tt
fetch_counted (word ∷ words) =
    bound (session_of word) _ (λ session. bound (only_word words) _ (λ last. number_counted 1000000 last (λ count. Session session (Fetch count)) (λ n h. h)))

compact_counted : (words : List (List ℕ)) → AllCounted (compact_of words)
unfolding compact_of
compact_counted [] = tt
compact_counted (word ∷ words) = bound (job_of word) _ (λ job. bound (files_onto [] words) _ (λ ids. tt))

session_step_counted : (step : SessionStep) → ((session : ℕ) → IsCounted (Session session step)) → (words : List (List ℕ)) → AllCounted (session_step_of step words)
session_step_counted step h words = bound (only_word words) _ (λ word. bound (session_of word) _ h)

word_counted : (word : List ℕ) (words : List (List ℕ)) → AllCounted (line_by_word word words)
unfolding line_by_word
word_counted word words =
    chosen (bytes_eq word (codes "m")) _ _ (mutation_counted words)
    (chosen (bytes_eq word (codes "scan")) _ _ (scan_counted words)
    (chosen (bytes_eq word (codes "open")) _ _ (open_counted words)
    (chosen (bytes_eq word (codes "fetch")) _ _ (fetch_counted words)
    (chosen (bytes_eq word (codes "renew")) _ _ (session_step_counted Renew (λ s. tt) words)
    (chosen (bytes_eq word (codes "drop")) _ _ (session_step_counted Drop (λ s. tt) words)
    (chosen (bytes_eq word (codes "close")) _ _ (session_step_counted Close (λ s. tt) words)
    (chosen (bytes_eq word (codes "freeze")) _ _ (at_end words (Some (Step Freeze)) tt)
    (chosen (bytes_eq word (codes "flushed")) _ _ (at_end words (Some (Step Flush)) tt)
    (chosen (bytes_eq word (codes "compact")) _ _ (compact_counted words)
    (chosen (bytes_eq word (codes "compactall")) _ _ (mapped (λ job. Step (CompactAll job)) (λ job. tt) (only_job words))
    (chosen (bytes_eq word (codes "finish")) _ _ (mapped (λ job. Step (Finish job)) (λ job. tt) (only_job words))
    (chosen (bytes_eq word (codes "status")) _ _ (at_end words (Some Status) tt) tt))))))))))))

reading_counted : (words : List (List ℕ)) → AllCounted (reading_of words)
unfolding reading_of
reading_counted [] = tt
reading_counted (word ∷ words) = chosen (is_comment word) _ _ tt (word_counted word words)

-- a fetch is read with a count of 1 at least
pub fetch_asks : (line : List ℕ) (session count : ℕ) → line_of line ≡ Some (Session session (Fetch count)) → 1 ≤ count
fetch_asks line session count h = subst AllCounted h (reading_counted (words_of line))
