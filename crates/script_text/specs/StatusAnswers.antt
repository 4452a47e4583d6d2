-- The lines of a store's status. All of this is this project's own.
use Rattle.std.specs.Prelude.{ℕ, Bool, List, ◌++◌, Option, Some, None, codes, flat_map}
use Rattle.std.specs.Fmt.{decimal}
use Rattle.tablet_steps.specs.Texts.{kind_word, number_line}

-- so many mutations came in
abbrev pub log_line : ℕ → List ℕ
log_line n = number_line (codes "log") n

-- so many entries are in memory
abbrev pub memory_line : ℕ → List ℕ
memory_line count = number_line (codes "memory") count

-- how many entries the frozen part has, if there is one
abbrev pub frozen_line : Option ℕ → List ℕ
frozen_line None = codes "frozen none\n"
frozen_line (Some count) = number_line (codes "frozen") count

-- a file of so many entries
abbrev pub file_line : ℕ → ℕ → List ℕ
file_line file count = codes "file f" ++ decimal file ++ codes " " ++ decimal count ++ codes "\n"

-- the files of a job, each behind a blank
abbrev pub file_words : List ℕ → List ℕ
file_words = flat_map (λ file. codes " f" ++ decimal file)

-- a running job, with its kind and its files
abbrev pub job_line : ℕ → Bool → List ℕ → List ℕ
job_line job full files = codes "job j" ++ decimal job ++ codes " " ++ kind_word full ++ file_words files ++ codes "\n"
