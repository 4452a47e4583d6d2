-- The summary of a tablet into which generated mutations were loaded: over whole lists. All of this is this project's own, but what a scan
-- answers.
use Rattle.std.specs.Prelude.{ℕ, List, [], ◌++◌, length, None, codes, flat_map, option_map}
use Rattle.tablet_model.specs.Answers.{answer}
use Rattle.tablet_model.specs.Cell.{Cell}
use Rattle.tablet_model.specs.History.{RowChange}
use Rattle.tablet_model.specs.Stages.{stages}
use Rattle.tablet_model.specs.Store.{File, Store}
use Rattle.iter_config.specs.RulesOf.{rules_of}
use Rattle.iter_config.specs.Settings.{Settings}
use Rattle.iter_config.specs.Stages.{stages_of}
use Rattle.tablet_steps.specs.Texts.{number_line}
use Rattle.script_text.specs.Answers.{count_line}
use Rattle.script_text.specs.Scans.{all_keys}
use Rattle.script_text.specs.StatusAnswers.{file_line, frozen_line, log_line, memory_line}
use Rattle.tablet_loader.specs.Loads.{after_plan, log_with_all}
use Rattle.tablet_gen.specs.Configuration.{generator_settings}
use Rattle.tablet_gen.specs.Mutations.{mutations_of}
use Rattle.tablet_gen.specs.Totals.{total_of}

-- the sum of the numbers that a scan found
abbrev pub total_line : ℕ → List ℕ
total_line n = number_line (codes "total") n

-- the lines of files, by their numbers
abbrev pub file_lines : List File → List ℕ
file_lines files = flat_map (λ f. file_line f.id (length f.cells)) files

-- the lines of a log, of the entries of a whole scan over it, and of a store
abbrev pub lines_of : List RowChange → List Cell → Store → List ℕ
lines_of log found s =
    log_line (length log) ++ count_line (length found) ++ total_line (total_of found)
    ++ memory_line (length s.memory) ++ frozen_line (option_map (λ f. length f) s.frozen) ++ file_lines s.files

-- the summary of a log under a configuration, and of a store
unfoldable pub summary_of : Settings → List RowChange → Store → List ℕ
summary_of config log s = lines_of log (answer (stages (stages_of config)) all_keys None log) s

-- the summary behind a load of mutations, with a flush behind each hundred
abbrev pub summary_behind : Settings → List RowChange → List ℕ
summary_behind config ms = summary_of config (log_with_all (rules_of config) [] ms) (after_plan (rules_of config) 100 ms).store

-- what `gen` writes for a start and a size
unfoldable pub summary_text : ℕ → ℕ → List ℕ
summary_text start size = summary_behind generator_settings (mutations_of size start)
