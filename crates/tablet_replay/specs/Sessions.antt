-- The open sessions of a script, and what a fetch gives them. All of this is this project's own.
use Rattle.std.specs.Prelude.{ℕ, ◌==◌, List, ◌++◌, Option, Some, None, option_and_then, position, remove, slice_get, slice_set, take}
use Rattle.tablet_model.specs.Answers.{answer}
use Rattle.tablet_model.specs.Cell.{Cell}
use Rattle.tablet_model.specs.Cuts.{Span}
use Rattle.tablet_model.specs.History.{RowChange}
use Rattle.tablet_model.specs.Places.{Place, after}
use Rattle.tablet_model.specs.Stages.{stages}
use Rattle.iter_config.specs.Stages.{stages_of}
use Rattle.iter_config.specs.Settings.{Settings}
use Rattle.scan_session.specs.Takes.{Mode, place_after, take_together}
use Rattle.scan_session.specs.Walks.{end_of}
use Rattle.script_text.specs.Answers.{found_text}
use Rattle.script_text.specs.SessionAnswers.{rest_line}

-- an open session: its number, what it was opened with, where it stands, and over how many mutations it answers
pub record OpenScan : Type 0 where
  pub number : ℕ
  pub range : Span
  pub families : Option (List (List ℕ))
  pub mode : Mode
  pub place : Place
  pub n : ℕ

-- the place of the session of a number, if one is open
abbrev pub place_of : ℕ → List OpenScan → Option ℕ
place_of number sessions = position (λ s. s.number == number) sessions

-- the session of a number, if one is open
abbrev pub find_session : ℕ → List OpenScan → Option OpenScan
find_session number sessions = option_and_then (slice_get sessions) (place_of number sessions)

-- the sessions where another stands in the place of that of a number
abbrev pub with_session : ℕ → OpenScan → List OpenScan → List OpenScan
with_session number new sessions = elim (place_of number sessions) [ None ↦ sessions | Some i ↦ slice_set sessions i new ]

-- the sessions without that of a number
abbrev pub without_session : ℕ → List OpenScan → List OpenScan
without_session number sessions = elim (place_of number sessions) [ None ↦ sessions | Some i ↦ remove sessions i ]

-- what a scan answers over a log: the configured stack over its live entries of these families, in this range
abbrev pub scan_answer : Settings → Span → Option (List (List ℕ)) → List RowChange → List Cell
scan_answer config range families log = answer (stages (stages_of config)) range families log

-- what a session answers
abbrev pub session_answer : Settings → List RowChange → OpenScan → List Cell
session_answer config log s = scan_answer config s.range s.families (take s.n log)

-- the next entries of a session, `count` of them or more where they may not be parted, or all that are left
abbrev pub next_entries : Settings → List RowChange → ℕ → OpenScan → List Cell
next_entries config log count s = take_together s.mode count (after s.place (session_answer config log s))

-- the session behind them
abbrev pub session_behind : Settings → List RowChange → ℕ → OpenScan → OpenScan
session_behind config log count s = record s { place = place_after s.mode s.place (next_entries config log count s) }

-- what a session has left
abbrev pub session_rest : Settings → List RowChange → OpenScan → List Cell
session_rest config log s = after s.place (session_answer config log s)

-- the text of a fetch: the next entries, and then the end where nothing is left behind them
abbrev pub fetch_text : Settings → List RowChange → ℕ → OpenScan → List ℕ
fetch_text config log count s =
    found_text s.n (next_entries config log count s)
    ++ rest_line (end_of s.n (session_rest config log (session_behind config log count s)))
