-- What the text of `replay` says of scans and sessions, line by line, as statements: this project's own theorems.
use Rattle.std.specs.Prelude.{◌≡◌, ◌==◌, ℕ, ◌≤◌, Bool, true, false, cond, List, [], ◌∷◌, ◌++◌, length, take, Option, Some, None}
use Rattle.tablet_model.specs.Answers.{answer}
use Rattle.tablet_model.specs.Cuts.{Span}
use Rattle.tablet_model.specs.Stages.{stages}
use Rattle.tablet_model.specs.Steps.{Event}
use Rattle.iter_config.specs.Stages.{stages_of}
use Rattle.iter_config.specs.Settings.{Settings}
use Rattle.scan_session.specs.Walks.{Walks, end_of, fetch_pieces}
use Rattle.scan_session.specs.declared.piece.Piece.{Piece}
use Rattle.script_text.specs.Answers.{scan_text}
use Rattle.script_text.specs.Grammar.{line_of}
use Rattle.script_text.specs.SessionAnswers.{opened_line, renewed_line, rest_line}
use Rattle.script_text.specs.declared.line.Line.{Line}
use Rattle.script_text.specs.declared.line.Line.TheVariants.{Step, Scan, Session, Status}
use Rattle.script_text.specs.declared.line.SessionStep.{SessionStep}
use Rattle.script_text.specs.declared.line.SessionStep.TheVariants.{Open, Fetch, Renew, Close}
use Rattle.tablet_view.specs.Extending.{BeginsWith}
use Rattle.tablet_replay.specs.Replay.{Replayed, after_line, after_step, line_answer, log_behind, opened_scan, replayed_none, script_answers}
use Rattle.tablet_replay.specs.Sessions.{OpenScan, find_session, scan_answer, session_behind, session_rest}
use Rattle.tablet_replay.specs.StatusText.{pieces_text}

-- what a script has made behind some lines
abbrev pub behind_lines : Replayed → List (List ℕ) → Replayed
behind_lines r [] = r
behind_lines r (line ∷ lines) = behind_lines (after_line r (line_of line)) lines

-- the piece that a fetch gives an open session, or none
abbrev pub piece_given : Replayed → ℕ → Option OpenScan → List Piece
piece_given r count None = []
piece_given r count (Some s) = fetch_pieces s.mode count s.n (session_rest r.config r.log s)

-- the pieces that the session of a number is given by a step of a session
abbrev pub given_step : ℕ → Replayed → ℕ → SessionStep → List Piece
given_step number r k (Fetch count) = cond (k == number) (piece_given r count (find_session number r.sessions)) []
given_step number r k _ = []

-- by a line
abbrev pub given_by : ℕ → Replayed → Option Line → List Piece
given_by number r (Some (Session k step)) = given_step number r k step
given_by number r _ = []

-- by some lines
abbrev pub given_along : ℕ → Replayed → List (List ℕ) → List Piece
given_along number r [] = []
given_along number r (line ∷ lines) = given_by number r (line_of line) ++ given_along number (after_line r (line_of line)) lines

-- whether a step of a session ends it
abbrev pub is_close : SessionStep → Bool
is_close Close = true
is_close _ = false

-- whether a line ends the session of a number
abbrev pub ends_session : ℕ → Option Line → Bool
ends_session number (Some (Session k step)) = cond (k == number) (is_close step) false
ends_session number _ = false

-- no line of some ends it
abbrev pub NoneEnds : ℕ → List (List ℕ) → Type 0
NoneEnds number [] = Unit {0}
NoneEnds number (line ∷ lines) = (ends_session number (line_of line) ≡ false) × NoneEnds number lines

-- an open session was given these pieces while the script went on: it is the same scan; its number of mutations never fell, and the history
-- has as many; and the pieces are a walk over the history
pub record HasScanned (new old : Replayed) (t s : OpenScan) (pieces : List Piece) : Type 0 where
  pub range : t.range ≡ s.range
  pub families : t.families ≡ s.families
  pub mode : t.mode ≡ s.mode
  pub config : new.config ≡ old.config
  pub log : BeginsWith new.log old.log
  pub never_falls : s.n ≤ t.n
  pub there : t.n ≤ length new.log
  pub last : ℕ
  pub walk : Walks (λ k. scan_answer old.config s.range s.families (take k new.log)) t.n s.mode s.place s.n pieces t.place last

-- the answer to a line stands behind those of the lines before it
abbrev pub AnswersStandInOrder : Type 0
AnswersStandInOrder = (r : Replayed) (before : List (List ℕ)) (line : List ℕ) (lines : List (List ℕ))
    → script_answers r (before ++ line ∷ lines)
    ≡ script_answers r before ++ (line_answer (behind_lines r before) (line_of line) ++ script_answers (behind_lines r (before ++ line ∷ [])) lines)

-- a scan is the whole answer of the configured stack over all mutations accepted so far, and says how many they are
abbrev pub ScansAreWhole : Type 0
ScansAreWhole = (r : Replayed) (range : Span) (families : Option (List (List ℕ)))
    → line_answer r (Some (Scan range families)) ≡ scan_text (length r.log) (answer (stages (stages_of r.config)) range families r.log)

-- a session is opened at its start, over all mutations accepted so far, and says how many they are
abbrev pub OpeningsCover : Type 0
OpeningsCover = (r : Replayed) (number : ℕ) (range : Span) (families : Option (List (List ℕ))) (isolated : Bool)
    → find_session number r.sessions ≡ None
    → (line_answer r (Some (Session number (Open range families isolated))) ≡ opened_line number (length r.log))
    × (find_session number (after_line r (Some (Session number (Open range families isolated)))).sessions
    ≡ Some (opened_scan r number range families isolated))

-- a renewal covers them too
abbrev pub RenewalsCover : Type 0
RenewalsCover = (r : Replayed) (number : ℕ) (s : OpenScan) → find_session number r.sessions ≡ Some s
    → (line_answer r (Some (Session number Renew)) ≡ renewed_line number (length r.log))
    × (find_session number (after_line r (Some (Session number Renew))).sessions ≡ Some (record s { n = length r.log }))

-- a fetch says its piece with the number of mutations that it is at, and whether nothing is left there
abbrev pub FetchesSayTheirPieces : Type 0
FetchesSayTheirPieces = (r : Replayed) (number count : ℕ) (s : OpenScan) → find_session number r.sessions ≡ Some s
    → line_answer r (Some (Session number (Fetch count)))
    ≡ pieces_text (piece_given r count (Some s)) ++ rest_line (end_of s.n (session_rest r.config r.log (session_behind r.config r.log count s)))

-- all pieces that an open session is given along a script, until it is closed, are a walk over the history, at numbers that never fall
abbrev pub SessionsWalk : Type 0
SessionsWalk = (config : Settings) (before lines : List (List ℕ)) (number : ℕ) (s : OpenScan)
    → find_session number (behind_lines (replayed_none config) before).sessions ≡ Some s → NoneEnds number lines
    → (t : OpenScan) × (find_session number (behind_lines (behind_lines (replayed_none config) before) lines).sessions ≡ Some t)
    × HasScanned (behind_lines (behind_lines (replayed_none config) before) lines) (behind_lines (replayed_none config) before) t s
    (given_along number (behind_lines (replayed_none config) before) lines)

-- whether a line asks for what the store of lists has
abbrev pub asks_store : Option Line → Bool
asks_store (Some (Step event)) = true
asks_store (Some Status) = true
asks_store _ = false

-- a step that adds no mutation changes no later answer of a scan or a session: neither a freeze, nor a flush, nor a compaction
abbrev pub StepsChangeNoAnswer : Type 0
StepsChangeNoAnswer = (r : Replayed) (e : Event) (lines : List (List ℕ)) (line : Option Line)
    → log_behind r.config r.log e ≡ r.log → asks_store line ≡ false
    → line_answer (behind_lines (after_step r e) lines) line ≡ line_answer (behind_lines r lines) line
