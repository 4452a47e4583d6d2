-- What a `LongReducer` has (this project's own).
use Rattle.std.specs.Prelude.{ℤ, Bool, true, List, [], ◌∷◌, Option, option_map}
use Rattle.tablet_model.specs.Reductions.{Reduction, IsLawful}
use Rattle.number_values.specs.Numbers.{number_reduction}
use Rattle.number_values.proofs.Joining.{number_lawful}
use Rattle.combiners.specs.declared.long_reducer.LongReducer.{LongReducer}

-- its values are numbers, one each
abbrev pub long_reduction : LongReducer → Reduction
long_reduction r = number_reduction r.op r.encoding

-- the number that it keeps, as a value
abbrev pub long_joined : LongReducer → Option (List ℤ)
long_joined r = option_map (λ z. z ∷ []) r.join

-- it takes no memory
abbrev pub long_steady : LongReducer → Bool
long_steady r = true

-- numbers are joined in any order, and read as they were written
pub long_lawful : (r : LongReducer) → IsLawful (long_reduction r)
long_lawful r = number_lawful r.op r.encoding
