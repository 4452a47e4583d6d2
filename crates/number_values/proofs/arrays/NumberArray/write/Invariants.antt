use Rattle.std.proofs.Common.{◌≡◌, take}
use Rattle.number_values.specs.Arrays.{array_text}
use Rattle.number_values.proofs.arrays.NumberArray.write.Given as goal

abbrev pub invariant-loop-index : goal.invariant-loop-index
invariant-loop-index l = l.text.items ≡ array_text l.encoding (take l.index l.number-items)
