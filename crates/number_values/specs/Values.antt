-- What each operation makes of the values of a column.
use Rattle.tablet_model.specs.Reductions.{Reduction}
use Rattle.number_values.specs.declared.op.Encoding.{Encoding}
use Rattle.number_values.specs.declared.op.Op.{Op}
use Rattle.number_values.specs.declared.op.Op.TheVariants as op
use Rattle.number_values.specs.Numbers.{number_reduction}
use Rattle.number_values.specs.Arrays.{array_reduction}

-- the reduction of an operation: of arrays for their sum, else of numbers (this project's own)
unfoldable pub reduction_of : Op → Encoding → Reduction
reduction_of op.Sum e = number_reduction op.Sum e
reduction_of op.Min e = number_reduction op.Min e
reduction_of op.Max e = number_reduction op.Max e
reduction_of op.ArraySum e = array_reduction e
