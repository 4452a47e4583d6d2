use Rattle.std.proofs.Common.{◌≡◌, ◌≤◌, ◌*◌, take}
use Rattle.compactor.specs.Plans.{total}
use Rattle.compactor.proofs.planner.total.Given as goal

abbrev pub invariant-loop-file : goal.invariant-loop-file
invariant-loop-file l = record {
  sum : l.sum ≡ total (take l.file-index l.files);
  low : l.sum ≤ l.file-index * 18446744073709551615;
}
