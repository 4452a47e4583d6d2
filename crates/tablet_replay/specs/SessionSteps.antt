-- What happens to one of the open sessions. All of this is this project's own.
use Rattle.std.specs.Prelude.{◌≡◌, ℕ, List, Some, slice_get, slice_set}
use Rattle.scan_session.specs.Sessions.{IsFetch, IsSameScan, SessionState}
use Rattle.scan_session.specs.declared.piece.Fetched.{Fetched}
use Rattle.tablet_view.specs.Snapshot.{Snapshot}
use Rattle.tablet_replay.specs.declared.sessions.OpenSession.{OpenSession}

-- the session at a place has been given the next entries
pub record IsFetchedAt (old new : List OpenSession) (i count : ℕ) (f : Fetched) : Type 0 where
  pub before : OpenSession
  pub behind : SessionState
  pub at : slice_get old i ≡ Some before
  pub now : new ≡ slice_set old i (record before { session = behind })
  pub fetch : IsFetch count before.session.place behind f.pieces f.ended
  pub same : IsSameScan behind before.session
  pub view : behind.view ≡ before.session.view

-- the session at a place is on a view
pub record IsRenewedAt (old new : List OpenSession) (i : ℕ) (view : Snapshot) : Type 0 where
  pub before : OpenSession
  pub at : slice_get old i ≡ Some before
  pub now : new ≡ slice_set old i (record before { session = record before.session { view = view } })
