-- The lines of a status and of the totals of a scan, as those of a summary.
use Rattle.std.proofs.Common.{◌≡◌, List, [], ◌∷◌, ◌++◌, length, map, None, refl, ap, ◌∙◌}
use Rattle.tablet_model.specs.Answers.{answer}
use Rattle.tablet_model.specs.Stages.{stages}
use Rattle.tablet_model.specs.Store.{File}
use Rattle.iter_config.specs.Stages.{stages_of}
use Rattle.script_text.specs.Answers.{count_line}
use Rattle.script_text.specs.Scans.{all_keys}
use Rattle.script_text.specs.StatusAnswers.{file_line, frozen_line, log_line, memory_line}
use Rattle.tablet_view.specs.Snapshot.{store_of}
use Rattle.tablet_core.specs.State.{CoreState, state_of}
use Rattle.tablet_core.specs.Status.{IsStatusOf, count_of}
use Rattle.tablet_core.specs.declared.status.StoreStatus.{StoreStatus}
use Rattle.tablet_gen.specs.Scanned.{AreTotalsOf}
use Rattle.tablet_gen.specs.Summary.{file_lines, summary_of, total_line}
use Rattle.tablet_gen.specs.SummaryParts.{count_lines, summary_lines}
use Rattle.tablet_gen.specs.declared.totals.Totals.{Totals}

counts_are : (files : List File) → count_lines (map count_of files) ≡ file_lines files
counts_are [] = refl
counts_are (f ∷ files) = ap (λ l. file_line f.id (length f.cells) ++ l) (counts_are files)

pub summary_is : (k : CoreState) (s : StoreStatus) (t : Totals) → IsStatusOf k s → AreTotalsOf (answer (stages (stages_of k.view.config)) all_keys None k.view.log) t
    → summary_lines s t ≡ summary_of k.view.config k.view.log (state_of k)
unfolding summary_of state_of store_of
summary_is k s t h totals =
    λ i. log_line (h.log i) ++ count_line (totals.entries i) ++ total_line (totals.total i) ++ memory_line (h.memory i) ++ frozen_line (h.frozen i) ++ files i
  where
    files : count_lines s.files ≡ file_lines k.view.files
    files = ap count_lines h.files ∙ counts_are k.view.files
