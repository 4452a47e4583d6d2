-- Which snapshots may follow which. All of this is this project's own.
use Rattle.std.specs.Prelude.{◌≡◌, ◌<◌, ◌≤◌, List, ◌++◌, length}
use Rattle.tablet_model.specs.History.{RowChange}
use Rattle.tablet_view.specs.Snapshot.{Snapshot}

-- a log begins with another
pub record BeginsWith (log earlier : List RowChange) : Type 0 where
  pub rest : List RowChange
  pub whole : log ≡ earlier ++ rest

-- a snapshot extends another: of one configuration, its log begins with the other's, its version is not lower, and is higher where its
-- log is longer
pub record Extends (v u : Snapshot) : Type 0 where
  pub config : v.config ≡ u.config
  pub log : BeginsWith v.log u.log
  pub version : u.version ≤ v.version
  pub rises : length u.log < length v.log → u.version < v.version
