-- The parts of a view as a snapshot. All of this is this project's own.
use Rattle.std.specs.Prelude.{map, option_map}
use Rattle.std.specs.Arc.{arc_value}
use Rattle.tablet_view.specs.LogParts.{mutation_in}
use Rattle.tablet_view.specs.Snapshot.{Snapshot}
use Rattle.tablet_view.specs.declared.view.View.TheInside.{Inside}

-- what the shared parts hold
abbrev pub snapshot_of : Inside → Snapshot
snapshot_of v = record {
  config = arc_value v.config;
  log = map (mutation_in (arc_value v.config)) (arc_value v.log);
  files = arc_value v.files;
  frozen = option_map (λ m. arc_value m) v.frozen;
  memory = arc_value v.memory;
  version = v.version;
}
