use Rattle.std.proofs.Common.{◌≡◌, take}
use Rattle.memory_map.specs.MapRuns.{lists_of}
use Rattle.memory_map.proofs.runs.with_run.Given as goal

abbrev pub invariant-loop-run : goal.invariant-loop-run
invariant-loop-run l = lists_of l.list.items ≡ lists_of (take l.run-index l.runs)
