use Rattle.std.proofs.Common.{◌≡◌, ◌≤◌, ◌+◌, true, length}
use Rattle.std.specs.Option.{option_copied}
use Rattle.std.specs.List.{list_all}
use Rattle.number_values.specs.Arrays.{array_in, array_sum, parts_left, is_element}
use Rattle.number_values.proofs.ArrayLoops.{summed_from, elements_of, length_left}
use Rattle.number_values.proofs.arrays.NumberArray.add.Given as goal

abbrev pub invariant-loop-rest : goal.invariant-loop-rest
invariant-loop-rest l = record {
  within : l.at ≤ length l.self;
  short : l.at + length (parts_left l.encoding (option_copied l.rest)) ≤ 256;
  elements : list_all (is_element l.encoding) (parts_left l.encoding (option_copied l.rest)) ≡ true;
  same : array_sum l.initial.self (array_in l.encoding l.bytes) ≡ summed_from l.at l.self (elements_of l.encoding (parts_left l.encoding (option_copied l.rest)));
}

abbrev pub decreases-loop-rest : goal.decreases-loop-rest
decreases-loop-rest l = length_left (option_copied l.rest)
