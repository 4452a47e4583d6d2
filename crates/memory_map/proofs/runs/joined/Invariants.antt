use Rattle.std.proofs.Common.{◌≡◌, ◌≤◌, ◌++◌, true, drop, length}
use Rattle.std.specs.List.{flat_map}
use Rattle.tablet_model.specs.Order.{above}
use Rattle.tablet_model.specs.Sorted.{Ascends, sorted}
use Rattle.memory_map.specs.MapRuns.{lists_of}
use Rattle.memory_map.proofs.runs.joined.Given as goal

abbrev pub invariant-loop-left : goal.invariant-loop-left
invariant-loop-left l = record {
  inside : l.left ≤ length l.runs;
  entries : sorted above l.entries ≡ sorted above (flat_map (λ list. list) (drop l.left (lists_of l.runs)) ++ l.added);
  order : l.is_sorted ≡ true → Ascends above l.entries;
}

abbrev pub decreases-loop-left : goal.decreases-loop-left
decreases-loop-left l = l.left
