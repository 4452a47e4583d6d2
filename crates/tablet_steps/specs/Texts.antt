-- The lines that answer steps of the store, and refusals, as they are written. All of this is this project's own.
use Rattle.std.specs.Prelude.{ℕ, Bool, if◌then◌else◌, List, ◌++◌, codes}
use Rattle.std.specs.Fmt.{decimal}
use Rattle.tablet_model.specs.Ingest.{Part, row_part, updates_part, family_part, qualifier_part, visibility_part, value_part, Refusal, bound, duplicate, delete_here, time_here, bad_value, full_log}
use Rattle.tablet_model.specs.Steps.{StepAnswer, applied, froze, flushed, started, finished, refused, nothing_in_memory, frozen_there, nothing_frozen, too_many_files, job_exists, no_files, no_such_file, in_job, no_such_job}
use Rattle.tablet_steps.specs.declared.refusal.LineRefusal.{LineRefusal}
use Rattle.tablet_steps.specs.declared.refusal.LineRefusal.TheVariants.{Syntax, SessionOpen, NoSession}

-- a word, a number and the end of the line
abbrev pub number_line : List ℕ → ℕ → List ℕ
number_line word n = word ++ codes " " ++ decimal n ++ codes "\n"

-- the kind of a job: whether it is a full compaction
abbrev pub kind_word : Bool → List ℕ
kind_word full = if full then codes "full" else codes "part"

-- a refusal by its code
abbrev pub no_line : List ℕ → List ℕ
no_line code = codes "no " ++ code ++ codes "\n"

-- a part of a mutation by its word
abbrev pub part_word : Part → List ℕ
part_word row_part = codes "row"
part_word updates_part = codes "updates"
part_word family_part = codes "family"
part_word qualifier_part = codes "qualifier"
part_word visibility_part = codes "visibility"
part_word value_part = codes "value"

-- why a mutation stays out: without the number of the update
abbrev pub mutation_code : Refusal → List ℕ
mutation_code (bound at part) = codes "bound " ++ part_word part
mutation_code (duplicate at) = codes "duplicate"
mutation_code (delete_here at) = codes "delete"
mutation_code (time_here at) = codes "time"
mutation_code (bad_value at) = codes "value"
mutation_code full_log = codes "full"

-- the line of an answer: the number of the mutation that came in, how many entries were frozen, a file with its number and its
-- length, a job with its number and its kind, or why the step is refused
abbrev pub answer_line : StepAnswer → List ℕ
answer_line (applied n) = number_line (codes "m") n
answer_line (froze count) = number_line (codes "freeze") count
answer_line (flushed file count) = codes "flushed f" ++ decimal file ++ codes " " ++ decimal count ++ codes "\n"
answer_line (started job full) = codes "compact j" ++ decimal job ++ codes " " ++ kind_word full ++ codes "\n"
answer_line (finished job file count) = codes "finish j" ++ decimal job ++ codes " f" ++ decimal file ++ codes " " ++ decimal count ++ codes "\n"
answer_line (refused refusal) = no_line (mutation_code refusal)
answer_line nothing_in_memory = no_line (codes "empty")
answer_line frozen_there = no_line (codes "frozen-there")
answer_line nothing_frozen = no_line (codes "not-frozen")
answer_line too_many_files = no_line (codes "too-many-files")
answer_line (job_exists job) = no_line (codes "job-exists j" ++ decimal job)
answer_line no_files = no_line (codes "files")
answer_line (no_such_file file) = no_line (codes "file f" ++ decimal file)
answer_line (in_job file job) = no_line (codes "in-job f" ++ decimal file ++ codes " j" ++ decimal job)
answer_line (no_such_job job) = no_line (codes "job j" ++ decimal job)

-- the line of a refusal of a line that asks no step of the store
abbrev pub refusal_line : LineRefusal → List ℕ
refusal_line Syntax = no_line (codes "syntax")
refusal_line (SessionOpen session) = no_line (codes "session-open s" ++ decimal session)
refusal_line (NoSession session) = no_line (codes "session s" ++ decimal session)
