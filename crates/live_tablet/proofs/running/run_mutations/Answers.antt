use Rattle.std.specs.Arc.{arc_value}
use Rattle.live_tablet.proofs.Runs.{opened_empty}
use Rattle.live_tablet.proofs.running.run_mutations.Goals as goal

pub run_open-run-requires-clause-empty : goal.run_open-run-requires-clause-empty
run_open-run-requires-clause-empty g c κs within = opened_empty c.in_ok-loader.loader (arc_value c.args.config) c.in_ok-loader.ensures.core.0 c.in_ok-loader.ensures.core.1
