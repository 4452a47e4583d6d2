-- The text that `replay` writes for an input: over whole lists, with nothing of cursors in it. A history of the accepted mutations is kept,
-- from which scans are answered, and a store of lists beside it, which enters into the answers of its own steps alone. All of this is this
-- project's own, but what a scan answers.
use Rattle.std.specs.Prelude.{ℕ, Bool, true, false, cond, List, [], ◌∷◌, ◌++◌, length, Option, Some, None, is_some, Result, Ok, Err, is_err}
use Rattle.tablet_model.specs.Cuts.{Span}
use Rattle.tablet_model.specs.History.{RowChange}
use Rattle.tablet_model.specs.Places.{Start}
use Rattle.tablet_model.specs.Ingest.{ingest}
use Rattle.tablet_model.specs.Steps.{Event, apply, answer_to_step, store_after}
use Rattle.tablet_model.specs.Store.{Store, empty_store}
use Rattle.iter_config.specs.Document.{config_of}
use Rattle.iter_config.specs.Faults.{Fault}
use Rattle.iter_config.specs.RulesOf.{rules_of}
use Rattle.iter_config.specs.Settings.{Settings}
use Rattle.scan_session.specs.Takes.{mode_of}
use Rattle.script_text.specs.Lines.{config_bytes, script_lines}
use Rattle.script_text.specs.Grammar.{line_of}
use Rattle.script_text.specs.Answers.{scan_text}
use Rattle.script_text.specs.SessionAnswers.{closed_line, dropped_line, opened_line, renewed_line}
use Rattle.script_text.specs.declared.line.Line.{Line}
use Rattle.script_text.specs.declared.line.Line.TheVariants.{Nothing, Step, Scan, Session, Status}
use Rattle.script_text.specs.declared.line.SessionStep.{SessionStep}
use Rattle.script_text.specs.declared.line.SessionStep.TheVariants.{Open, Fetch, Renew, Drop, Close}
use Rattle.tablet_steps.specs.ModelSteps.{event_of}
use Rattle.tablet_steps.specs.Texts.{answer_line, refusal_line}
use Rattle.tablet_steps.specs.declared.refusal.LineRefusal.TheVariants.{Syntax, NoSession, SessionOpen}
use Rattle.tablet_replay.specs.Refusals.{config_line}
use Rattle.tablet_replay.specs.Sessions.{OpenScan, fetch_text, find_session, scan_answer, session_behind, with_session, without_session}
use Rattle.tablet_replay.specs.Status.{status_text}

-- what a script has made: under its configuration, the accepted mutations, a store of lists, and the open sessions
pub record Replayed : Type 0 where
  pub config : Settings
  pub log : List RowChange
  pub store : Store
  pub sessions : List OpenScan

-- nothing yet
abbrev pub replayed_none : Settings → Replayed
replayed_none config = record { config = config; log = []; store = empty_store; sessions = [] }

-- the answer to a step of the store
abbrev pub step_answer_text : Replayed → Event → List ℕ
step_answer_text r e = answer_line (answer_to_step (rules_of r.config) r.store e)

-- the history behind a step of the store: a mutation that comes in behind it, by its own length, stands at its end
unfoldable pub log_behind : Settings → List RowChange → Event → List RowChange
log_behind config log (apply m) = cond (is_some (ingest (rules_of config) (length log) m)) log (log ++ m ∷ [])
log_behind config log _ = log

-- what is there behind a step of the store
abbrev pub after_step : Replayed → Event → Replayed
after_step r e = record r { log = log_behind r.config r.log e; store = store_after (rules_of r.config) r.store e }

-- a session that is opened now
abbrev pub opened_scan : Replayed → ℕ → Span → Option (List (List ℕ)) → Bool → OpenScan
opened_scan r number range families isolated = record {
  number = number;
  range = range;
  families = families;
  mode = mode_of isolated;
  place = Start;
  n = length r.log;
}

-- a text, where a session is open, or else that it is not
abbrev pub if_open : Replayed → ℕ → (OpenScan → List ℕ) → List ℕ
if_open r number text = elim (find_session number r.sessions) [ None ↦ refusal_line (NoSession number) | Some s ↦ text s ]

-- what becomes of a session, where it is open
abbrev pub where_open : Replayed → ℕ → (OpenScan → OpenScan) → Replayed
where_open r number change =
    record r { sessions = elim (find_session number r.sessions) [ None ↦ r.sessions | Some s ↦ with_session number (change s) r.sessions ] }

-- the answer to a step of a session
unfoldable pub session_text : Replayed → ℕ → SessionStep → List ℕ
session_text r number (Open range families isolated) =
    cond (is_some (find_session number r.sessions)) (refusal_line (SessionOpen number)) (opened_line number (length r.log))
session_text r number (Fetch count) = if_open r number (fetch_text r.config r.log count)
session_text r number Renew = if_open r number (λ s. renewed_line number (length r.log))
session_text r number Drop = if_open r number (λ s. dropped_line number)
session_text r number Close = if_open r number (λ s. closed_line number)

-- what is there behind a step of a session
unfoldable pub after_session_step : Replayed → ℕ → SessionStep → Replayed
after_session_step r number (Open range families isolated) =
    record r { sessions = cond (is_some (find_session number r.sessions)) r.sessions (r.sessions ++ opened_scan r number range families isolated ∷ []) }
after_session_step r number (Fetch count) = where_open r number (session_behind r.config r.log count)
after_session_step r number Renew = where_open r number (λ s. record s { n = length r.log })
after_session_step r number Drop = r
after_session_step r number Close = record r { sessions = without_session number r.sessions }

-- the answer to a line; None is a line without a reading
unfoldable pub line_answer : Replayed → Option Line → List ℕ
line_answer r None = refusal_line Syntax
line_answer r (Some Nothing) = []
line_answer r (Some (Step event)) = step_answer_text r (event_of event)
line_answer r (Some (Scan range families)) = scan_text (length r.log) (scan_answer r.config range families r.log)
line_answer r (Some (Session number step)) = session_text r number step
line_answer r (Some Status) = status_text r.store

-- what is there behind a line
unfoldable pub after_line : Replayed → Option Line → Replayed
after_line r None = r
after_line r (Some Nothing) = r
after_line r (Some (Step event)) = after_step r (event_of event)
after_line r (Some (Scan range families)) = r
after_line r (Some (Session number step)) = after_session_step r number step
after_line r (Some Status) = r

-- whether a step of a session asks for entries, which may be many
abbrev pub is_fetch : SessionStep → Bool
is_fetch (Fetch count) = true
is_fetch _ = false

-- whether a line asks for entries, which may be many
abbrev pub asks_entries : Option Line → Bool
asks_entries (Some (Scan range families)) = true
asks_entries (Some (Session number step)) = is_fetch step
asks_entries _ = false

-- the answers to some lines
abbrev pub script_answers : Replayed → List (List ℕ) → List ℕ
script_answers r [] = []
script_answers r (line ∷ lines) = line_answer r (line_of line) ++ script_answers (after_line r (line_of line)) lines

-- the configuration of an input, or why it is refused
abbrev pub input_config : List ℕ → Result (Settings) Fault
input_config bytes = config_of (config_bytes bytes)

-- whether it is refused
abbrev pub is_refused : List ℕ → Bool
is_refused bytes = is_err (input_config bytes)

-- what is written under a configuration for the lines of a script, or under none
abbrev pub text_under : Result (Settings) Fault → List (List ℕ) → List ℕ
text_under (Err f) lines = config_line f
text_under (Ok config) lines = script_answers (replayed_none config) lines

-- what `replay` writes for an input
unfoldable pub replay_text : List ℕ → List ℕ
replay_text bytes = text_under (input_config bytes) (script_lines bytes)
