-- The bytes that `pack` writes for an input. All of this is this project's own.
use Rattle.std.specs.Prelude.{◌≡◌, ℕ, cond, List, [], ◌∷◌, ◌++◌, length, Option, Some, None, is_some, Result, Ok, Err}
use Rattle.tablet_model.specs.Cell.{Cell}
use Rattle.tablet_model.specs.History.{RowChange, history_entries}
use Rattle.tablet_model.specs.Ingest.{ingest}
use Rattle.tablet_model.specs.Markers.{live}
use Rattle.tablet_model.specs.Stages.{stages}
use Rattle.iter_config.specs.Faults.{Fault}
use Rattle.iter_config.specs.RulesOf.{rules_of}
use Rattle.iter_config.specs.Settings.{Settings}
use Rattle.cell_key.specs.Mutations.{row_change_of}
use Rattle.script_text.specs.Lines.{script_lines}
use Rattle.script_text.specs.Grammar.{line_of}
use Rattle.script_text.specs.declared.line.Line.{Line}
use Rattle.script_text.specs.declared.line.Line.TheVariants.{Step}
use Rattle.tablet_steps.specs.declared.event.Event.TheVariants.{Apply}
use Rattle.tablet_view.specs.Snapshot.{Snapshot}
use Rattle.sorted_file.specs.Image.{image_of}
use Rattle.sorted_file.specs.declared.version.Version.TheVariants.{Two}
use Rattle.tablet_replay.specs.Refusals.{config_line}
use Rattle.tablet_replay.specs.Replay.{input_config}

-- the history behind a mutation: where it comes in, it stands at the end
abbrev pub history_with : Settings → List RowChange → RowChange → List RowChange
history_with config h m = cond (is_some (ingest (rules_of config) (length h) m)) h (h ++ m ∷ [])

-- the history behind a line
unfoldable pub history_after : Settings → List RowChange → Option Line → List RowChange
history_after config h (Some (Step (Apply m))) = history_with config h (row_change_of m)
history_after config h _ = h

-- the history behind some lines
abbrev pub history_behind : Settings → List RowChange → List (List ℕ) → List RowChange
history_behind config h [] = h
history_behind config h (line ∷ lines) = history_behind config (history_after config h (line_of line)) lines

-- what the iterators of compactions make of the live entries of a history
abbrev pub pack_entries : Settings → List RowChange → List Cell
pack_entries config h = stages (rules_of config).base (live (history_entries h))

-- what is written under a configuration for the lines of a script, or under none
abbrev pub pack_under : Result (Settings) Fault → List (List ℕ) → List ℕ
pack_under (Err f) lines = config_line f
pack_under (Ok config) lines = image_of Two (pack_entries config (history_behind config [] lines))

-- what `pack` writes for an input
unfoldable pub pack_text : List ℕ → List ℕ
pack_text bytes = pack_under (input_config bytes) (script_lines bytes)

-- a snapshot has all its entries in memory
abbrev pub IsInMemory : Snapshot → Type 0
IsInMemory v = (v.files ≡ []) × (v.frozen ≡ None) × (v.memory ≡ history_entries v.log)
