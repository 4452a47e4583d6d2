-- The laws of sessions, as statements: this project's own theorems. With them the pieces of any calls of a session are put together.
use Rattle.std.specs.Prelude.{◌≡◌, ℕ, List, [], ◌++◌, length, take}
use Rattle.tablet_model.specs.History.{RowChange}
use Rattle.tablet_model.specs.Places.{Start}
use Rattle.tablet_view.specs.Extending.{BeginsWith}
use Rattle.tablet_view.specs.Snapshot.{Snapshot}
use Rattle.scan_session.specs.Sessions.{SessionState, AnswersInOrder, HasWalked, answer_over, left_of, number_of}
use Rattle.scan_session.specs.Walks.{AreAt, Walks, entries_of_pieces}
use Rattle.scan_session.specs.declared.piece.Piece.{Piece}

-- what a session answers is in order
abbrev pub AnswersStandInOrder : Type 0
AnswersStandInOrder = (s : SessionState) → AnswersInOrder s

-- a session that gave nothing has walked from where it stands
abbrev pub StayingWalks : Type 0
StayingWalks = (s : SessionState) → HasWalked s s []

-- so has one that goes on over a view of the same configuration whose log begins with that of its own
abbrev pub RenewalsWalk : Type 0
RenewalsWalk = (s : SessionState) (view : Snapshot) → view.config ≡ s.view.config → BeginsWith view.log s.view.log
    → HasWalked (record s { view = view }) s []

-- what a session gave in a row are the pieces of one walk
abbrev pub SessionsGoOn : Type 0
SessionsGoOn = (new between old : SessionState) (xs ys : List Piece) → HasWalked between old xs → HasWalked new between ys
    → HasWalked new old (xs ++ ys)

-- over each log that begins with that of its view, as the history does, they are a walk too
abbrev pub SessionsWalkOverHistories : Type 0
SessionsWalkOverHistories = (new old : SessionState) (pieces : List Piece) (history : List RowChange) → HasWalked new old pieces
    → BeginsWith history new.view.log
    → (last : ℕ) × Walks (λ k. answer_over old (take k history)) (length history) old.mode old.place (number_of old) pieces new.place last

-- where a session that stood at the start has nothing left, and all its pieces are at the number of its view, they are its whole answer
abbrev pub SessionsAreWhole : Type 0
SessionsAreWhole = (new old : SessionState) (pieces : List Piece) → AnswersInOrder new → HasWalked new old pieces → old.place ≡ Start
    → left_of new ≡ [] → AreAt (number_of new) pieces
    → entries_of_pieces pieces ≡ answer_over new new.view.log
