-- Sessions, and what they are given. All of this is this project's own.
use Rattle.std.specs.Prelude.{◌≡◌, ℕ, ◌<◌, List, [], ◌∷◌, ◌++◌, Option, Some, length, take}
use Rattle.tablet_model.specs.Answers.{answer}
use Rattle.tablet_model.specs.Cell.{Cell}
use Rattle.tablet_model.specs.Cuts.{Span}
use Rattle.tablet_model.specs.History.{RowChange}
use Rattle.tablet_model.specs.Order.{above}
use Rattle.tablet_model.specs.Places.{Place, after}
use Rattle.tablet_model.specs.Sorted.{Ascends}
use Rattle.tablet_model.specs.Stages.{stages}
use Rattle.iter_config.specs.Stages.{stages_of}
use Rattle.tablet_view.specs.Extending.{BeginsWith}
use Rattle.tablet_view.specs.Snapshot.{Snapshot}
use Rattle.scan_session.specs.Takes.{Mode, place_after, take_together}
use Rattle.scan_session.specs.Walks.{EndsWell, Walks, end_of, fetch_pieces, entries_of_pieces}
use Rattle.scan_session.specs.declared.piece.Piece.{Piece}

-- a session: the view that it has pinned, the range, families and mode that it was opened with, and where it stands
pub record SessionState : Type 0 where
  pub view : Snapshot
  pub range : Span
  pub families : Option (List (List ℕ))
  pub mode : Mode
  pub place : Place

-- the number of mutations that its view has
abbrev pub number_of : SessionState → ℕ
number_of s = length s.view.log

-- what it answers over a log
abbrev pub answer_over : SessionState → List RowChange → List Cell
answer_over s log = answer (stages (stages_of s.view.config)) s.range s.families log

-- what it answers over the first mutations of its view's log
abbrev pub answers_of : SessionState → ℕ → List Cell
answers_of s n = answer_over s (take n s.view.log)

-- what it answers is in order, over every log
abbrev pub AnswersInOrder : SessionState → Type 0
AnswersInOrder s = (log : List RowChange) → Ascends above (answer_over s log)

-- what is left of its answer
abbrev pub left_of : SessionState → List Cell
left_of s = after s.place (answer_over s s.view.log)

-- it is as before, but for its view and its place
pub record IsSameScan (new old : SessionState) : Type 0 where
  pub config : new.view.config ≡ old.view.config
  pub range : new.range ≡ old.range
  pub families : new.families ≡ old.families
  pub mode : new.mode ≡ old.mode

-- what a fetch of m entries gives, where the session has come from a place to where it is: at the number of its view the next entries,
-- and the end exactly where nothing is left
pub record IsFetch (m : ℕ) (p : Place) (s : SessionState) (given : List Piece) (end : Option ℕ) : Type 0 where
  pub pieces : given ≡ fetch_pieces s.mode m (number_of s) (after p (answer_over s s.view.log))
  pub place : s.place ≡ place_after s.mode p (take_together s.mode m (after p (answer_over s s.view.log)))
  pub ended : end ≡ end_of (number_of s) (left_of s)

-- these pieces have at least m entries, or nothing is left behind them, and they end where the first m entries may be parted from the next:
-- whatever numbers they are at
pub record TakesEnough (m : ℕ) (s : SessionState) (given : List Piece) : Type 0 where
  pub enough : length (entries_of_pieces given) < m → left_of s ≡ []
  pub no_more : (front rest : List Cell) (e : Cell) → entries_of_pieces given ≡ front ++ e ∷ rest → EndsWell s.mode front (e ∷ rest) → length front < m

-- it gave these pieces, one behind the other, while it came from an older state to where it is: it is the same scan over a log that begins
-- with that of then, and they are a walk over its log, from the place and the number of then
pub record HasWalked (new old : SessionState) (pieces : List Piece) : Type 0 where
  pub same : IsSameScan new old
  pub log : BeginsWith new.view.log old.view.log
  pub last : ℕ
  pub walk : Walks (answers_of new) (number_of new) new.mode old.place (number_of old) pieces new.place last

-- an end that was told is the number of its view, and nothing is left there
abbrev pub IsEndOf : SessionState → Option ℕ → Type 0
IsEndOf s ended = (n : ℕ) → ended ≡ Some n → (n ≡ number_of s) × (left_of s ≡ [])
