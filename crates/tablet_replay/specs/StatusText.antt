-- A status of the store, as it is written, and the pieces of a fetch. All of this is this project's own.
use Rattle.std.specs.Prelude.{ℕ, List, ◌++◌, flat_map}
use Rattle.compactor.specs.declared.job_state.JobState.{JobState}
use Rattle.scan_session.specs.declared.piece.Piece.{Piece}
use Rattle.script_text.specs.Answers.{at_line, entry_lines}
use Rattle.script_text.specs.StatusAnswers.{file_line, frozen_line, job_line, log_line, memory_line}
use Rattle.compactor.specs.declared.file_sets.FileCount.{FileCount}
use Rattle.tablet_core.specs.declared.status.StoreStatus.{StoreStatus}

-- the lines of files
abbrev pub count_lines : List FileCount → List ℕ
count_lines = flat_map (λ f. file_line f.id f.count)

-- the lines of jobs
abbrev pub state_lines : List JobState → List ℕ
state_lines = flat_map (λ j. job_line j.job j.full j.files)

-- the lines of a status
abbrev pub status_lines : StoreStatus → List ℕ
status_lines s = log_line s.log ++ memory_line s.memory ++ frozen_line s.frozen ++ count_lines s.files ++ state_lines s.jobs

-- a piece, and the number that it is at
abbrev pub piece_text : Piece → List ℕ
piece_text p = at_line p.n ++ entry_lines p.entries

-- some pieces
abbrev pub pieces_text : List Piece → List ℕ
pieces_text = flat_map piece_text
