-- What the code has of a summary, as it is written. All of this is this project's own.
use Rattle.std.specs.Prelude.{ℕ, List, ◌++◌, flat_map}
use Rattle.compactor.specs.declared.file_sets.FileCount.{FileCount}
use Rattle.script_text.specs.Answers.{count_line}
use Rattle.script_text.specs.StatusAnswers.{file_line, frozen_line, log_line, memory_line}
use Rattle.tablet_core.specs.declared.status.StoreStatus.{StoreStatus}
use Rattle.tablet_gen.specs.Summary.{total_line}
use Rattle.tablet_gen.specs.declared.totals.Totals.{Totals}

-- the lines of files
abbrev pub count_lines : List FileCount → List ℕ
count_lines files = flat_map (λ f. file_line f.id f.count) files

-- the lines of a status and of the totals of a scan
abbrev pub summary_lines : StoreStatus → Totals → List ℕ
summary_lines s t =
    log_line s.log ++ count_line t.entries ++ total_line t.total ++ memory_line s.memory ++ frozen_line s.frozen ++ count_lines s.files
