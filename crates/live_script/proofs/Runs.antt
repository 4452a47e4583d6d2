-- The text of a run is one that `live` may write.
use Rattle.std.proofs.Common.{◌≡◌, ℕ, List, [], ◌∷◌, ◌++◌, length, map, take, Option, Some, option_map, refl, sym, ap, subst, ◌∙◌, append_assoc}
use Rattle.std.specs.Prelude.{Result, Err}
use Rattle.cell_key.specs.Mutations.{row_change_of}
use Rattle.cell_key.specs.declared.mutation.Mutation.{Mutation}
use Rattle.iter_config.specs.RulesOf.{rules_of}
use Rattle.iter_config.specs.Settings.{Settings}
use Rattle.tablet_io.specs.Streams.{IsFrontTaken}
use Rattle.tablet_replay.specs.declared.outcome.ReplyError.{ReplyError}
use Rattle.tablet_replay.specs.declared.outcome.ReplyError.TheVariants.{Write}
use Rattle.live_script.specs.Replies.{RepliesOne}
use Rattle.script_text.specs.StatusAnswers.{file_line, frozen_line, log_line, memory_line}
use Rattle.tablet_model.specs.Store.{File, Store}
use Rattle.tablet_steps.specs.ModelSteps.{model_answer_of}
use Rattle.tablet_view.specs.Snapshot.{store_of}
use Rattle.tablet_core.specs.State.{CoreState, state_of}
use Rattle.tablet_core.specs.Status.{IsStatusOf, count_of}
use Rattle.tablet_core.specs.declared.status.StoreStatus.{StoreStatus}
use Rattle.tablet_loader.specs.Loads.{after_plan, answers_to, log_with_all}
use Rattle.tablet_replay.specs.Status.{file_lines}
use Rattle.tablet_replay.specs.StatusText.{count_lines}
use Rattle.live_tablet.specs.Runs.{AreNumberedWalks}
use Rattle.live_tablet.specs.declared.running.LiveRun.{LiveRun}
use Rattle.live_tablet.specs.declared.running.LiveShape.{LiveShape}
use Rattle.live_script.specs.Scripts.{kinds_of, mutations_of}
use Rattle.live_script.specs.Texts.{IsLiveText, final_text, lines_text, numbered_text, parts_text, scanner_text, text_of_run}
use Rattle.live_script.specs.declared.script.LineKind.{LineKind}

counted : (files : List File) → count_lines (map count_of files) ≡ file_lines files
counted [] = refl
counted (f ∷ fs) = ap (λ l. file_line f.id (length f.cells) ++ l) (counted fs)

-- what a status says of a store's parts
parts_are : (k : CoreState) (s : StoreStatus) (store : Store) → state_of k ≡ store → IsStatusOf k s
    → memory_line s.memory ++ frozen_line s.frozen ++ count_lines s.files ≡ parts_text store
unfolding state_of store_of
parts_are k s store e is =
    (λ i. memory_line (is.memory i) ++ frozen_line (is.frozen i) ++ count_lines (is.files i))
    ∙ ap (λ l. memory_line (length k.view.memory) ++ frozen_line (option_map (λ z. length z) k.view.frozen) ++ l) (counted k.view.files)
    ∙ ap parts_text e

-- what a store has, behind other text
regroup : (x memory frozen files : List ℕ) → x ++ memory ++ frozen ++ files ≡ x ++ (memory ++ frozen ++ files)
regroup x memory frozen files =
    append_assoc (x ++ memory) frozen files ∙ append_assoc x memory (frozen ++ files) ∙ sym (ap (λ l. x ++ l) (append_assoc memory frozen files))

-- the text of a run under a configuration, over these mutations and lines of these kinds
pub live_text : (c d : Settings) (lines : List (List ℕ)) (shape : LiveShape) (run : LiveRun) (mutations : List Mutation) (kinds : List LineKind) (text : List ℕ)
    → d ≡ c → map row_change_of mutations ≡ mutations_of lines → kinds ≡ kinds_of lines
    → map model_answer_of run.answers ≡ map (λ a. Some a) (answers_to (rules_of d) [] (map row_change_of mutations))
    → AreNumberedWalks d (log_with_all (rules_of d) [] (map row_change_of mutations)) (length (log_with_all (rules_of d) [] (take shape.chunk (map row_change_of mutations)))) shape.batch 1 run.walks.items
    → length run.walks.items ≡ shape.scanners
    → (k : CoreState) × (state_of k ≡ (after_plan (rules_of d) shape.chunk (map row_change_of mutations)).store) × (k.view.log ≡ log_with_all (rules_of d) [] (map row_change_of mutations)) × IsStatusOf k run.status
    → text ≡ lines_text kinds (map model_answer_of run.answers) ++ log_line run.status.log ++ numbered_text scanner_text 1 run.walks.items ++ numbered_text final_text 1 run.walks.items
    ++ memory_line run.status.memory ++ frozen_line run.status.frozen ++ count_lines run.status.files
    → IsLiveText c lines shape text
unfolding text_of_run
live_text c d lines shape run mutations kinds text config changes are answers walks each status whole =
    let walked = run.walks.items in
    let parts = parts_are status.0 run.status _ status.1 status.3 in
    let log : run.status.log ≡ length (log_with_all (rules_of d) [] (map row_change_of mutations)) = status.3.log ∙ ap length status.2 in
    record {
      walks = walked;
      each = each;
      scanned = subst (λ x. AreNumberedWalks x (log_with_all (rules_of x) [] (mutations_of lines)) (length (log_with_all (rules_of x) [] (take shape.chunk (mutations_of lines)))) shape.batch 1 walked) config
          (subst (λ ms. AreNumberedWalks d (log_with_all (rules_of d) [] ms) (length (log_with_all (rules_of d) [] (take shape.chunk ms))) shape.batch 1 walked) changes walks);
      whole = whole
          ∙ regroup (lines_text kinds (map model_answer_of run.answers) ++ log_line run.status.log ++ numbered_text scanner_text 1 walked ++ numbered_text final_text 1 walked)
          (memory_line run.status.memory) (frozen_line run.status.frozen) (count_lines run.status.files)
          ∙ (λ i. lines_text (are i) (answers i) ++ log_line (log i) ++ numbered_text scanner_text 1 walked ++ numbered_text final_text 1 walked ++ parts i)
          ∙ (λ i. lines_text (kinds_of lines) (map (λ a. Some a) (answers_to (rules_of (config i)) [] (changes i))) ++ log_line (length (log_with_all (rules_of (config i)) [] (changes i)))
          ++ numbered_text scanner_text 1 walked ++ numbered_text final_text 1 walked ++ parts_text (after_plan (rules_of (config i)) shape.chunk (changes i)).store);
    }

-- a front of it was written
pub one_front : {X : Type 0} (r : Result X ReplyError) (allowed : List ℕ → Type 0) (before after : Option (List ℕ)) (text : List ℕ) → r ≡ Err Write → allowed text → IsFrontTaken text before after
    → RepliesOne allowed before after r
one_front r allowed before after text e here front = subst (RepliesOne allowed before after) (sym e) (text, here, front)
