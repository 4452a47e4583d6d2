use Rattle.std.proofs.Common.{◌≡◌, ◌≤◌}
use Rattle.std.specs.Option.{option_copied}
use Rattle.number_values.specs.Arrays.{spells_array, parts_left}
use Rattle.number_values.proofs.ArrayLoops.{still_array, length_left}
use Rattle.number_values.proofs.arrays.spells_array.Given as goal

abbrev pub invariant-loop-rest : goal.invariant-loop-rest
invariant-loop-rest l = record {
  within : l.count ≤ 256;
  same : spells_array l.encoding l.bytes ≡ still_array l.encoding l.count (parts_left l.encoding (option_copied l.rest));
}

abbrev pub decreases-loop-rest : goal.decreases-loop-rest
decreases-loop-rest l = length_left (option_copied l.rest)
