-- The grammar of script lines. All of this is this project's own.
use Rattle.std.specs.Prelude.{ℕ, ℤ, Bool, true, false, ◌==◌, if◌then◌else◌, List, [], ◌∷◌, Option, Some, None, option_map, codes}
use Rattle.std.specs.Str.{bytes_eq}
use Rattle.cell_key.specs.declared.mutation.Update.{Update}
use Rattle.cell_key.specs.FileNumbers.{with_number}
use Rattle.script_text.specs.Code.{caret, colon, equals, hash, minus, plus}
use Rattle.script_text.specs.Reading.{◌>>=◌}
use Rattle.script_text.specs.Numbers.{file_of, job_of, number_to, session_of}
use Rattle.script_text.specs.Scans.{behind_families, behind_range, families_in, families_text, range_in, range_word}
use Rattle.script_text.specs.Times.{time_of}
use Rattle.script_text.specs.Words.{split_once, text_of, words_of}
use Rattle.script_text.specs.declared.line.Line.{Line}
use Rattle.script_text.specs.declared.line.Line.TheVariants.{Nothing, Step, Scan, Session, Status}
use Rattle.script_text.specs.declared.line.SessionStep.{SessionStep}
use Rattle.script_text.specs.declared.line.SessionStep.TheVariants.{Open, Fetch, Renew, Drop, Close}
use Rattle.tablet_steps.specs.declared.event.Event.TheVariants.{Apply, Freeze, Flush, Compact, CompactAll, Finish}

-- FAMILY:QUALIFIER:VISIBILITY=VALUE, each part up to the first byte that ends it: a put at this time of its own, or at none
unfoldable pub put_of : Option ℤ → List ℕ → Option Update
put_of time text = do
  family ← split_once colon text
  qualifier ← split_once colon family.1
  visibility ← split_once equals qualifier.1
  f ← text_of family.0
  q ← text_of qualifier.0
  v ← text_of visibility.0
  value ← text_of visibility.1
  Some (record { family = f; qualifier = q; visibility = v; time = time; value = Some value })

-- TIME+FAMILY:QUALIFIER:VISIBILITY=VALUE, the time up to the first plus
unfoldable pub timed_put_of : List ℕ → Option Update
timed_put_of text = do
  put ← split_once plus text
  time ← time_of put.0
  put_of (Some time) put.1

-- FAMILY:QUALIFIER:VISIBILITY, the visibility up to the end
unfoldable pub delete_of : List ℕ → Option Update
delete_of text = do
  family ← split_once colon text
  qualifier ← split_once colon family.1
  f ← text_of family.0
  q ← text_of qualifier.0
  v ← text_of qualifier.1
  Some (record { family = f; qualifier = q; visibility = v; time = None; value = None })

-- a put behind a plus, a delete behind a minus, a put with a time of its own behind a caret
unfoldable pub update_of : List ℕ → Option Update
update_of [] = None
update_of (b ∷ bs) =
    if b == plus then put_of None bs else
    if b == minus then delete_of bs else
    if b == caret then timed_put_of bs else None

-- each word is an update
abbrev pub updates_of : List (List ℕ) → Option (List Update)
updates_of [] = Some []
updates_of (word ∷ words) = do
  update ← update_of word
  updates ← updates_of words
  Some (update ∷ updates)

-- what stands behind m: a row and its updates
unfoldable pub mutation_of : List (List ℕ) → Option Line
mutation_of [] = None
mutation_of (word ∷ words) = do
  row ← text_of word
  updates ← updates_of words
  Some (Step (Apply (record { row = row; updates = updates })))

-- nothing stands behind a line's words
abbrev pub with_no_more : List (List ℕ) → Option Line → Option Line
with_no_more [] line = line
with_no_more (word ∷ words) line = None

-- what stands behind scan: a range, then families, both optional
unfoldable pub scan_of : List (List ℕ) → Option Line
scan_of words = do
  range ← range_in (range_word words)
  families ← families_in (families_text (behind_range words))
  with_no_more (behind_families (behind_range words)) (Some (Scan range families))

-- the word `isolated`, or nothing
abbrev pub isolated_of : List (List ℕ) → Option Bool
isolated_of [] = Some false
isolated_of (word ∷ []) = if bytes_eq word (codes "isolated") then Some true else None
isolated_of (word ∷ next ∷ words) = None

-- what stands behind open: a session, then a range, families and `isolated`, all three optional
unfoldable pub open_of : List (List ℕ) → Option Line
open_of [] = None
open_of (word ∷ words) = do
  session ← session_of word
  range ← range_in (range_word words)
  families ← families_in (families_text (behind_range words))
  isolated ← isolated_of (behind_families (behind_range words))
  Some (Session session (Open range families isolated))

-- the only word
abbrev pub only_word : List (List ℕ) → Option (List ℕ)
only_word [] = None
only_word (word ∷ []) = Some word
only_word (word ∷ next ∷ words) = None

-- what stands behind fetch: a session, and how many entries, from 1 to 1,000,000
unfoldable pub fetch_of : List (List ℕ) → Option Line
fetch_of [] = None
fetch_of (word ∷ words) = do
  session ← session_of word
  last ← only_word words
  count ← number_to 1000000 last
  Some (Session session (Fetch count))

-- what stands behind renew, drop and close: a session
abbrev pub session_step_of : SessionStep → List (List ℕ) → Option Line
session_step_of step words = do
  word ← only_word words
  session ← session_of word
  Some (Session session step)

-- a job alone
abbrev pub only_job : List (List ℕ) → Option ℕ
only_job words = do
  word ← only_word words
  job_of word

-- what stands behind compactall and finish: a job
abbrev pub compact_all_of : List (List ℕ) → Option Line
compact_all_of words = option_map (λ job. Step (CompactAll job)) (only_job words)

abbrev pub finish_of : List (List ℕ) → Option Line
finish_of words = option_map (λ job. Step (Finish job)) (only_job words)

-- each word is a file; one that is named twice counts once
abbrev pub files_onto : List ℕ → List (List ℕ) → Option (List ℕ)
files_onto ids [] = Some ids
files_onto ids (word ∷ words) = do
  id ← file_of word
  files_onto (with_number id ids) words

-- what stands behind compact: a job and its files
unfoldable pub compact_of : List (List ℕ) → Option Line
compact_of [] = None
compact_of (word ∷ words) = do
  job ← job_of word
  ids ← files_onto [] words
  Some (Step (Compact job ids))

abbrev pub is_comment : List ℕ → Bool
is_comment [] = false
is_comment (b ∷ bs) = b == hash

-- a line by its first word and the words behind it
unfoldable pub line_by_word : List ℕ → List (List ℕ) → Option Line
line_by_word word words =
    if bytes_eq word (codes "m") then mutation_of words else
    if bytes_eq word (codes "scan") then scan_of words else
    if bytes_eq word (codes "open") then open_of words else
    if bytes_eq word (codes "fetch") then fetch_of words else
    if bytes_eq word (codes "renew") then session_step_of Renew words else
    if bytes_eq word (codes "drop") then session_step_of Drop words else
    if bytes_eq word (codes "close") then session_step_of Close words else
    if bytes_eq word (codes "freeze") then with_no_more words (Some (Step Freeze)) else
    if bytes_eq word (codes "flushed") then with_no_more words (Some (Step Flush)) else
    if bytes_eq word (codes "compact") then compact_of words else
    if bytes_eq word (codes "compactall") then compact_all_of words else
    if bytes_eq word (codes "finish") then finish_of words else
    if bytes_eq word (codes "status") then with_no_more words (Some Status) else None

-- the reading of a line's words
unfoldable pub reading_of : List (List ℕ) → Option Line
reading_of [] = Some Nothing
reading_of (word ∷ words) = if is_comment word then Some Nothing else line_by_word word words

-- the reading of a line
abbrev pub line_of : List ℕ → Option Line
line_of line = reading_of (words_of line)
