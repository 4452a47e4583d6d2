-- The text that `live` writes for a script. It is a relation, since which pieces a scanner reads is left to the threads. All of this is this
-- project's own.
use Rattle.std.specs.Prelude.{◌≡◌, ℕ, ◌+◌, ◌%◌, cond, List, [], ◌∷◌, ◌++◌, length, map, take, option_map, flat_map, Option, Some, None, Result, Ok, Err, codes, eqb}
use Rattle.std.specs.Fmt.{decimal}
use Rattle.tablet_model.specs.History.{RowChange}
use Rattle.tablet_model.specs.Steps.{StepAnswer}
use Rattle.tablet_model.specs.Store.{Store}
use Rattle.iter_config.specs.Faults.{Fault}
use Rattle.iter_config.specs.RulesOf.{rules_of}
use Rattle.iter_config.specs.Settings.{Settings}
use Rattle.tablet_steps.specs.Texts.{answer_line, no_line, refusal_line}
use Rattle.tablet_steps.specs.declared.refusal.LineRefusal.TheVariants.{Syntax}
use Rattle.script_text.specs.Answers.{end_line}
use Rattle.script_text.specs.Lines.{script_lines}
use Rattle.script_text.specs.StatusAnswers.{frozen_line, log_line, memory_line}
use Rattle.scan_session.specs.declared.piece.Fetched.{Fetched}
use Rattle.tablet_loader.specs.Loads.{after_plan, answers_to, log_with_all}
use Rattle.tablet_replay.specs.Refusals.{config_line}
use Rattle.tablet_replay.specs.Replay.{input_config}
use Rattle.tablet_replay.specs.Status.{file_lines}
use Rattle.tablet_replay.specs.StatusText.{pieces_text}
use Rattle.live_tablet.specs.Runs.{AreNumberedWalks}
use Rattle.live_tablet.specs.declared.running.LiveShape.{LiveShape}
use Rattle.live_tablet.specs.declared.running.ScannerWalks.{ScannerWalks}
use Rattle.live_tablet.specs.declared.walk.Walk.{Walk}
use Rattle.live_script.specs.Scripts.{kinds_of, mutations_of}
use Rattle.live_script.specs.declared.script.LineKind.{LineKind}
use Rattle.live_script.specs.declared.script.LineKind.TheVariants.{Nothing, Mutation, Other, Unread}

-- the line of a line that `live` does not know
abbrev pub not_live_line : List ℕ
not_live_line = no_line (codes "live")

-- the answers to lines of these kinds, where these are the answers to the mutations among them
abbrev pub lines_text : List LineKind → List (Option StepAnswer) → List ℕ
lines_text [] answers = []
lines_text (Nothing ∷ kinds) answers = lines_text kinds answers
lines_text (Mutation ∷ kinds) (Some a ∷ answers) = answer_line a ++ lines_text kinds answers
lines_text (Mutation ∷ kinds) (None ∷ answers) = lines_text kinds answers
lines_text (Mutation ∷ kinds) [] = lines_text kinds []
lines_text (Other ∷ kinds) answers = not_live_line ++ lines_text kinds answers
lines_text (Unread ∷ kinds) answers = refusal_line Syntax ++ lines_text kinds answers

-- what some fetches gave
abbrev pub fetches_text : List Fetched → List ℕ
fetches_text = flat_map (λ f. pieces_text f.pieces)

-- what a scanner gave, fetch by fetch, and the number at which nothing was left
abbrev pub walk_text : Walk → List ℕ
walk_text w = fetches_text w.fetches ++ end_line w.end

-- the mode of the scanner of a number, by its word
abbrev pub mode_word : ℕ → List ℕ
mode_word number = cond (eqb (number % 2) 0) (codes "isolated") (codes "plain")

-- what the scanner of a number gave beside the loader
abbrev pub scanner_text : ℕ → ScannerWalks → List ℕ
scanner_text number w = codes "scanner " ++ decimal number ++ codes " " ++ mode_word number ++ codes "\n" ++ walk_text w.beside

-- what it gave at the end
abbrev pub final_text : ℕ → ScannerWalks → List ℕ
final_text number w = codes "final " ++ decimal number ++ codes "\n" ++ walk_text w.last

-- the texts of scanners that are numbered from a number on
abbrev pub numbered_text : (ℕ → ScannerWalks → List ℕ) → ℕ → List ScannerWalks → List ℕ
numbered_text text number [] = []
numbered_text text number (w ∷ ws) = text number w ++ numbered_text text (number + 1) ws

-- what a store has in its parts
abbrev pub parts_text : Store → List ℕ
parts_text s = memory_line (length s.memory) ++ frozen_line (option_map (λ z. length z) s.frozen) ++ file_lines s.files

-- the mutations of a script that come in
abbrev pub live_log : Settings → List (List ℕ) → List RowChange
live_log c lines = log_with_all (rules_of c) [] (mutations_of lines)

-- how many of its first n mutations come in
abbrev pub first_count : Settings → ℕ → List (List ℕ) → ℕ
first_count c n lines = length (log_with_all (rules_of c) [] (take n (mutations_of lines)))

-- the text of a run in which scanners gave this: the answers to the lines, how many mutations came in, what each scanner gave beside the
-- loader and then at the end, and what the store has
unfoldable pub text_of_run : Settings → List (List ℕ) → ℕ → List ScannerWalks → List ℕ
text_of_run c lines chunk walks =
    lines_text (kinds_of lines) (map (λ a. Some a) (answers_to (rules_of c) [] (mutations_of lines))) ++ log_line (length (live_log c lines))
    ++ numbered_text scanner_text 1 walks ++ numbered_text final_text 1 walks ++ parts_text (after_plan (rules_of c) chunk (mutations_of lines)).store

-- a text that a run of this shape may write: each scanner gave a whole scan, over the first mutations that came in and from those of the first
-- chunk on, and at the end one over all of them
pub record IsLiveText (c : Settings) (lines : List (List ℕ)) (shape : LiveShape) (text : List ℕ) : Type 0 where
  pub walks : List ScannerWalks
  pub each : length walks ≡ shape.scanners
  pub scanned : AreNumberedWalks c (live_log c lines) (first_count c shape.chunk lines) shape.batch 1 walks
  pub whole : text ≡ text_of_run c lines shape.chunk walks

-- a text that may be written under a configuration, or under none
abbrev pub IsTextUnder : Result Settings Fault → List (List ℕ) → LiveShape → List ℕ → Type 0
IsTextUnder (Err f) lines shape text = text ≡ config_line f
IsTextUnder (Ok c) lines shape text = IsLiveText c lines shape text

-- a text that `live` may write for an input
unfoldable pub IsLiveReply : LiveShape → List ℕ → List ℕ → Type 0
IsLiveReply shape bytes text = IsTextUnder (input_config bytes) (script_lines bytes) shape text
