-- Scans of a whole table, piece by piece, while mutations come in. All of this is this project's own; that an isolated scanner sees a row
-- whole is Accumulo's.
use Rattle.std.specs.Prelude.{◌≡◌, ℕ, ◌<◌, Bool, false, List, [], ◌∷◌, ◌++◌, Option, None, All, length, take}
use Rattle.tablet_model.specs.Answers.{answer}
use Rattle.tablet_model.specs.Cell.{Cell}
use Rattle.tablet_model.specs.Cuts.{Span, Everything}
use Rattle.tablet_model.specs.History.{RowChange}
use Rattle.tablet_model.specs.Places.{Place, Start}
use Rattle.tablet_model.specs.Stages.{stages}
use Rattle.iter_config.specs.Settings.{Settings}
use Rattle.iter_config.specs.Stages.{stages_of}
use Rattle.tablet_view.specs.Snapshot.{Snapshot}
use Rattle.scan_session.specs.Sessions.{SessionState, HasWalked, IsEndOf}
use Rattle.scan_session.specs.Takes.{Mode}
use Rattle.scan_session.specs.Walks.{EndsWell, IsEnd, Walks}
use Rattle.scan_session.specs.declared.piece.Piece.{Piece}

-- all keys
abbrev pub all_keys : Span
all_keys = record { start = Everything; end = Everything }

-- what a scan of all keys in all families answers over a log
abbrev pub whole_answer : Settings → List RowChange → List Cell
whole_answer c log = answer (stages (stages_of c)) all_keys None log

-- a session at the start of such a scan
abbrev pub start_over : Snapshot → Mode → SessionState
start_over view mode = record { view = view; range = all_keys; families = None; mode = mode; place = Start }

-- wherever a piece may be parted, fewer than m entries stand before: so fewer than m stand before its last key, or its last row
abbrev pub IsWithin : Mode → ℕ → Piece → Type 0
IsWithin mode m x = (front rest : List Cell) (e : Cell) → x.entries ≡ front ++ e ∷ rest → EndsWell mode front (e ∷ rest) → length front < m

-- a session has come from the start of a scan over a view of `least` mutations to where it is, and gave these pieces on its way: they are
-- one walk over the log of its view, each within a batch, and an end that was told is so
pub record HasScanned (least batch : ℕ) (s : SessionState) (pieces : List Piece) (ended : Option ℕ) : Type 0 where
  pub first : Snapshot
  pub begins : least ≡ length first.log
  pub walked : HasWalked s (start_over first s.mode) pieces
  pub within : All (IsWithin s.mode batch) pieces
  pub end : IsEndOf s ended

-- pieces are a whole scan over the first mutations of a log, from `least` of them on: a walk with an end, each piece within a batch
pub record IsScanOver (c : Settings) (log : List RowChange) (mode : Mode) (batch least : ℕ) (pieces : List Piece) (ended : ℕ) : Type 0 where
  pub place : Place
  pub last : ℕ
  pub walk : Walks (λ k. whole_answer c (take k log)) (length log) mode Start least pieces place last
  pub end : IsEnd (λ k. whole_answer c (take k log)) (length log) place last ended
  pub within : All (IsWithin mode batch) pieces

-- a scan: its session, the size of its batches, how many mutations there were at its start, what it gave, the end that it was told, and
-- whether memory was wanting; then what it gave is not known
pub record ScanState : Type 0 where
  pub session : SessionState
  pub batch : ℕ
  pub least : ℕ
  pub pieces : List Piece
  pub ended : Option ℕ
  pub failed : Bool

-- a scan over a view that has given nothing
abbrev pub new_scan : Snapshot → Mode → ℕ → ScanState
new_scan view mode batch = record { session = start_over view mode; batch = batch; least = length view.log; pieces = []; ended = None; failed = false }

-- it is the same scan as before, but for what it gave and where it is
pub record IsSameScanOf (new old : ScanState) : Type 0 where
  pub mode : new.session.mode ≡ old.session.mode
  pub batch : new.batch ≡ old.batch
  pub least : new.least ≡ old.least
  pub failed : new.failed ≡ false → old.failed ≡ false
