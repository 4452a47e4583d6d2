-- How mutations are loaded into a store of lists: chunk by chunk, with a flush and a compaction behind each. All of this is this
-- project's own.
use Rattle.std.specs.Prelude.{ℕ, zero, suc, ◌+◌, cond, List, [], ◌∷◌, ◌++◌, length, map, take, drop, Option, Some, None, is_some, option_map, unwrap_or}
use Rattle.tablet_model.specs.History.{RowChange}
use Rattle.tablet_model.specs.Ingest.{ingest}
use Rattle.tablet_model.specs.Rules.{Rules}
use Rattle.tablet_model.specs.Store.{Store, empty_store}
use Rattle.tablet_model.specs.Steps.{Event, StepAnswer, apply, applied, refused, freeze, flush, compact, finish, store_after}
use Rattle.compactor.specs.Plans.{choice}
use Rattle.tablet_core.specs.Status.{count_of}

-- a store, and the number of the job that was started last, 0 where none was
pub record Load : Type 0 where
  pub store : Store
  pub job : ℕ

-- nothing is loaded
abbrev pub empty_load : Load
empty_load = record { store = empty_store; job = 0 }

-- behind a step of its store; a refused one changes nothing
abbrev pub after_step : Rules → Load → Event → Load
after_step c l e = record l { store = store_after c l.store e }

-- behind mutations
abbrev pub after_changes : Rules → Load → List RowChange → Load
after_changes c l [] = l
after_changes c l (m ∷ ms) = after_changes c (after_step c l (apply m)) ms

-- behind the flush of the frozen part and the end of the last job
unfoldable pub after_jobs : Rules → Load → Load
after_jobs c l = after_step c (after_step c l flush) (finish l.job)

-- behind the start of a job over these files, under the next number
abbrev pub after_start : Rules → Load → Option (List ℕ) → Load
after_start c l None = l
after_start c l (Some ids) = record { store = store_after c l.store (compact (l.job + 1) ids); job = l.job + 1 }

-- the files that the planner chooses
abbrev pub files_chosen : Store → Option (List ℕ)
files_chosen s = choice (map count_of s.files)

-- the memory is frozen, and a job over what the planner chooses is started
unfoldable pub after_begin : Rules → Load → Load
after_begin c l = after_start c (after_step c l freeze) (files_chosen (store_after c l.store freeze))

-- behind a chunk
abbrev pub after_chunk : Rules → Load → List RowChange → Load
after_chunk c l ms = after_begin c (after_jobs c (after_changes c l ms))

-- behind some chunks
abbrev pub after_chunks : Rules → Load → List (List RowChange) → Load
after_chunks c l [] = l
after_chunks c l (ms ∷ chunks) = after_chunks c (after_chunk c l ms) chunks

-- the first k of the pieces of n elements that a list is cut into, the last of which may be shorter
abbrev pub pieces : {X : Type 0} → ℕ → ℕ → List X → List (List X)
pieces zero n xs = []
pieces (suc k) n [] = []
pieces (suc k) n (x ∷ xs) = take n (x ∷ xs) ∷ pieces k n (drop n (x ∷ xs))

-- all of them
unfoldable pub chunks_of : {X : Type 0} → ℕ → List X → List (List X)
chunks_of n xs = pieces (length xs) n xs

-- behind all chunks of n mutations, and the jobs of the last
abbrev pub after_plan : Rules → ℕ → List RowChange → Load
after_plan c n ms = after_jobs c (after_chunks c empty_load (chunks_of n ms))

-- a log behind a mutation, which stands at its end where it comes in
unfoldable pub log_with : Rules → List RowChange → RowChange → List RowChange
log_with c h m = cond (is_some (ingest c (length h) m)) h (h ++ m ∷ [])

-- a log behind mutations
abbrev pub log_with_all : Rules → List RowChange → List RowChange → List RowChange
log_with_all c h [] = h
log_with_all c h (m ∷ ms) = log_with_all c (log_with c h m) ms

-- the answer to a mutation behind a log: its number, or why it stays out
unfoldable pub answer_to : Rules → List RowChange → RowChange → StepAnswer
answer_to c h m = unwrap_or (option_map refused (ingest c (length h) m)) (applied (length h + 1))

-- the answers to mutations, in turn
abbrev pub answers_to : Rules → List RowChange → List RowChange → List StepAnswer
answers_to c h [] = []
answers_to c h (m ∷ ms) = answer_to c h m ∷ answers_to c (log_with c h m) ms
