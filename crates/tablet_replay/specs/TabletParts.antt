-- What the program keeps while it replays a script, as what the script has made. All of this is this project's own.
use Rattle.std.specs.Prelude.{◌≡◌, List, length, map}
use Rattle.std.specs.List.{AllByRecursion}
use Rattle.tablet_core.specs.State.{CoreState, state_of}
use Rattle.tablet_view.specs.Extending.{BeginsWith}
use Rattle.tablet_view.specs.Snapshot.{Snapshot}
use Rattle.tablet_replay.specs.Replay.{Replayed}
use Rattle.tablet_replay.specs.Sessions.{OpenScan}
use Rattle.tablet_replay.specs.declared.sessions.OpenSession.{OpenSession}

-- the store and the open sessions
pub record TabletState : Type 0 where
  pub core : CoreState
  pub sessions : List OpenSession

-- an open session, as the text knows it
abbrev pub open_scan : OpenSession → OpenScan
open_scan s = record {
  number = s.number;
  range = s.session.range;
  families = s.session.families;
  mode = s.session.mode;
  place = s.session.place;
  n = length s.session.view.log;
}

-- what the script has made
abbrev pub replayed_by : TabletState → Replayed
replayed_by t = record {
  config = t.core.view.config;
  log = t.core.view.log;
  store = state_of t.core;
  sessions = map open_scan t.sessions;
}

-- a view is one that a session may have pinned: of one configuration with the present view, whose log begins with its log
pub record IsPinned (now : Snapshot) (s : OpenSession) : Type 0 where
  pub config : s.session.view.config ≡ now.config
  pub log : BeginsWith now.log s.session.view.log

-- each session is on such a view
abbrev pub ArePinned : Snapshot → List OpenSession → Type 0
ArePinned now sessions = AllByRecursion (IsPinned now) sessions
