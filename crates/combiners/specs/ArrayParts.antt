-- What an `ArrayReducer` has (this project's own).
use Rattle.std.specs.Prelude.{ℤ, Bool, false, cond, List, Option, Some, None}
use Rattle.tablet_model.specs.Reductions.{Reduction, IsLawful}
use Rattle.number_values.specs.Arrays.{array_reduction}
use Rattle.number_values.proofs.ArrayLaws.{array_lawful}
use Rattle.combiners.specs.declared.array_reducer.ArrayReducer.{ArrayReducer}

-- its values are arrays
abbrev pub array_reducer_reduction : ArrayReducer → Reduction
array_reducer_reduction r = array_reduction r.encoding

-- the sums that it keeps, if it has started
abbrev pub array_reducer_joined : ArrayReducer → Option (List ℤ)
array_reducer_joined r = cond r.is_started (Some r.sums) None

-- it takes memory for a longer array
abbrev pub array_reducer_steady : ArrayReducer → Bool
array_reducer_steady r = false

-- arrays are joined in any order, and read as they were written
pub array_reducer_lawful : (r : ArrayReducer) → IsLawful (array_reducer_reduction r)
array_reducer_lawful r = array_lawful r.encoding
