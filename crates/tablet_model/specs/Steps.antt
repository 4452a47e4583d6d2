-- The steps of a store, with their answers and refusals. All of this is this project's own.
use Rattle.std.specs.Prelude.{ℕ, ◌+◌, pos, Bool, true, false, cond, not, List, [], ◌∷◌, ◌++◌, map, length, eqb, nat_lt, Option, Some, None, is_some, is_none, option_map, unwrap_or}
use Rattle.std.specs.Option.{option_or}
use Rattle.std.specs.List.{filter, list_all}
use Rattle.tablet_model.specs.Limits.{max_files}
use Rattle.tablet_model.specs.Cell.{Cell}
use Rattle.tablet_model.specs.Sum.{sum_of}
use Rattle.tablet_model.specs.Compactions.{minor_compaction, partial_compaction, full_compaction}
use Rattle.tablet_model.specs.History.{RowChange, entries_of}
use Rattle.tablet_model.specs.Rules.{Rules}
use Rattle.tablet_model.specs.Ingest.{Refusal, ingest}
use Rattle.tablet_model.specs.Store.{Store, File, RunningJob, frozen_of, has_id, files_without, input_of}

-- what a store is asked: to take a mutation in, to freeze its memory, to write the frozen part to a file, to start a job over files of
-- ascending numbers or over all, and to put a job's result in the place of its files
pub data Event : Type 0 where
  apply : RowChange → Event
  freeze : Event
  flush : Event
  compact : ℕ → List ℕ → Event
  compact_all : ℕ → Event
  finish : ℕ → Event

-- what it answers: the number of the mutation, how many entries were frozen, a file's number and length, a job's number and whether it is
-- full, a job's number with its file's and that file's length; and then why it refuses
pub data StepAnswer : Type 0 where
  applied : ℕ → StepAnswer
  froze : ℕ → StepAnswer
  flushed : ℕ → ℕ → StepAnswer
  started : ℕ → Bool → StepAnswer
  finished : ℕ → ℕ → ℕ → StepAnswer
  refused : Refusal → StepAnswer
  nothing_in_memory : StepAnswer
  frozen_there : StepAnswer
  nothing_frozen : StepAnswer
  too_many_files : StepAnswer
  job_exists : ℕ → StepAnswer
  no_files : StepAnswer
  no_such_file : ℕ → StepAnswer
  in_job : ℕ → ℕ → StepAnswer
  no_such_job : ℕ → StepAnswer

-- whether a list has no elements
unfoldable pub is_empty : {X : Type 0} → List X → Bool
is_empty [] = true
is_empty (x ∷ xs) = false

-- the job of a number
unfoldable pub find_job : ℕ → List RunningJob → Option RunningJob
find_job j [] = None
find_job j (t ∷ ts) = cond (eqb j t.job) (Some t) (find_job j ts)

-- the number of the job that has a file
unfoldable pub holder : ℕ → List RunningJob → Option ℕ
holder i [] = None
holder i (t ∷ ts) = cond (has_id t.ids i) (Some t.job) (holder i ts)

-- the refusal of the first number that is not among those that are there
unfoldable pub first_missing : List ℕ → List ℕ → Option StepAnswer
first_missing there [] = None
first_missing there (i ∷ is) = cond (has_id there i) (first_missing there is) (Some (no_such_file i))

-- the refusal of the first number that is in a job
unfoldable pub first_taken : List RunningJob → List ℕ → Option StepAnswer
first_taken jobs [] = None
first_taken jobs (i ∷ is) = option_or (option_map (in_job i) (holder i jobs)) (first_taken jobs is)

-- the numbers of files
unfoldable pub ids_of : List File → List ℕ
ids_of files = map (λ f. f.id) files

-- whether these are all files
unfoldable pub takes_all : List ℕ → List File → Bool
takes_all ids files = list_all (λ f. has_id ids f.id) files

-- why a job does not start: its number runs, it has no files, one is not there, or one is in a job
unfoldable pub refuse_start : Store → ℕ → List ℕ → Option StepAnswer
refuse_start s j ids = cond (is_some (find_job j s.jobs)) (Some (job_exists j))
    (cond (is_empty ids) (Some no_files)
    (option_or (first_missing (ids_of s.files) ids) (first_taken s.jobs ids)))

-- why a step is refused; a store has at most 64 files where a frozen part is written
unfoldable pub refuse : Rules → Store → Event → Option StepAnswer
refuse c s (apply m) = option_map refused (ingest c s.count m)
refuse c s freeze = cond (is_some s.frozen) (Some frozen_there) (cond (is_empty s.memory) (Some nothing_in_memory) None)
refuse c s flush = cond (is_none s.frozen) (Some nothing_frozen) (cond (nat_lt (length s.files) max_files) None (Some too_many_files))
refuse c s (compact j ids) = refuse_start s j ids
refuse c s (compact_all j) = refuse_start s j (ids_of s.files)
refuse c s (finish j) = cond (is_some (find_job j s.jobs)) None (Some (no_such_job j))

-- a store with one job more
unfoldable pub with_job : Store → ℕ → Bool → List ℕ → Store
with_job s j full ids = record s { jobs = s.jobs ++ record { job = j; full = full; ids = ids } ∷ [] }

-- the entries of the file that a job makes: the compaction of its kind over its input
unfoldable pub made_by : Rules → Store → RunningJob → List Cell
made_by c s t = cond t.full (full_compaction c.major (input_of t.ids s.files)) (partial_compaction c.major (input_of t.ids s.files))

-- a store where a job's file stands in the place of its inputs, and the job is gone
unfoldable pub without_job : Rules → Store → RunningJob → Store
without_job c s t = record s {
  files = files_without t.ids s.files ++ record { id = s.next; cells = made_by c s t } ∷ [];
  next = s.next + 1;
  jobs = filter (λ u. not (eqb t.job u.job)) s.jobs;
}

-- the store behind a step that is not refused
unfoldable pub step : Rules → Store → Event → Store
step c s (apply m) = record s { count = s.count + 1; memory = sum_of s.memory (entries_of (pos (s.count + 1)) m) }
step c s freeze = record s { frozen = Some s.memory; memory = [] }
step c s flush = record s { files = s.files ++ record { id = s.next; cells = minor_compaction c.minor (frozen_of s) } ∷ []; next = s.next + 1; frozen = None }
step c s (compact j ids) = with_job s j (takes_all ids s.files) ids
step c s (compact_all j) = with_job s j true (ids_of s.files)
step c s (finish j) = elim (find_job j s.jobs) [ None ↦ s | Some t ↦ without_job c s t ]

-- the answer to a step that is not refused
unfoldable pub step_answer : Rules → Store → Event → StepAnswer
step_answer c s (apply m) = applied (s.count + 1)
step_answer c s freeze = froze (length s.memory)
step_answer c s flush = flushed s.next (length (minor_compaction c.minor (frozen_of s)))
step_answer c s (compact j ids) = started j (takes_all ids s.files)
step_answer c s (compact_all j) = started j true
step_answer c s (finish j) = elim (find_job j s.jobs) [ None ↦ no_such_job j | Some t ↦ finished j s.next (length (made_by c s t)) ]

-- the answer to any step
unfoldable pub answer_to_step : Rules → Store → Event → StepAnswer
answer_to_step c s e = unwrap_or (refuse c s e) (step_answer c s e)

-- the store behind any step: a refused one changes nothing
unfoldable pub store_after : Rules → Store → Event → Store
store_after c s e = cond (is_some (refuse c s e)) s (step c s e)

-- the log behind any step: a mutation that comes in stands at its end
unfoldable pub log_after : Rules → Store → List RowChange → Event → List RowChange
log_after c s h (apply m) = cond (is_some (ingest c s.count m)) h (h ++ m ∷ [])
log_after c s h freeze = h
log_after c s h flush = h
log_after c s h (compact j ids) = h
log_after c s h (compact_all j) = h
log_after c s h (finish j) = h
