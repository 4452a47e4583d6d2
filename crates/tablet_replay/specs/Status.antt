-- The status of a store, as it is written. All of this is this project's own.
use Rattle.std.specs.Prelude.{ℕ, List, ◌++◌, length, option_map, flat_map, nat_lt}
use Rattle.tablet_model.specs.Sorted.{sorted}
use Rattle.tablet_model.specs.Store.{File, RunningJob, Store}
use Rattle.script_text.specs.StatusAnswers.{file_line, frozen_line, job_line, log_line, memory_line}

-- the lines of files, by their numbers
abbrev pub file_lines : List File → List ℕ
file_lines = flat_map (λ f. file_line f.id (length f.cells))

-- the lines of running jobs, by their numbers
abbrev pub job_lines : List RunningJob → List ℕ
job_lines jobs = flat_map (λ j. job_line j.job j.full j.ids) (sorted (λ a b. nat_lt b.job a.job) jobs)

-- the lines of a store's status
unfoldable pub status_text : Store → List ℕ
status_text s =
    log_line s.count ++ memory_line (length s.memory) ++ frozen_line (option_map (λ f. length f) s.frozen)
    ++ file_lines s.files ++ job_lines s.jobs
