use Rattle.std.proofs.Common.{◌≡◌, ◌+◌, ◌≤◌, length, drop}
use Rattle.std.specs.List.{sum_by}
use Rattle.memory_map.specs.MapRuns.{lists_of}
use Rattle.memory_map.proofs.runs.Joining.of.Given as goal

abbrev pub invariant-loop-kept : goal.invariant-loop-kept
invariant-loop-kept l = record {
  inside : l.kept ≤ length l.runs;
  counted : l.size ≡ l.added + sum_by length (drop l.kept (lists_of l.runs));
}

abbrev pub decreases-loop-kept : goal.decreases-loop-kept
decreases-loop-kept l = l.kept
