use Rattle.std.proofs.Common.{◌≡◌, ◌≤◌, [], length, map, take}
use Rattle.cell_key.specs.FileNumbers.{with_numbers}
use Rattle.compactor.proofs.planner.numbers.Given as goal

abbrev pub invariant-loop-file : goal.invariant-loop-file
invariant-loop-file l = record {
  numbers : l.ids.items ≡ with_numbers (map (λ f. f.id) (take l.file-index l.set)) [];
  few : length l.ids.items ≤ l.file-index;
}
