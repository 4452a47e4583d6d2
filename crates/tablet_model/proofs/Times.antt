-- The times of entries are numbers of 64 bits.
use Rattle.std.proofs.Common.{ℕ, ℤ, ◌^◌, ◌<◌, arith, FitsSigned}
use Rattle.std.specs.Int.{w64, cast_signed, cast_unsigned}
use Rattle.std.proofs.lemmas.Int.{ints}
use Rattle.tablet_model.specs.Bounds.{IsTime}

pub time_fits : (t : ℤ) → IsTime t → FitsSigned w64 t
time_fits t h = omega (arith, ints)

pub time_below : (t : ℤ) → IsTime t → cast_unsigned w64 t < 2 ^ 64
time_below t h = omega (arith, ints)

pub time_is : (n : ℕ) → n < 2 ^ 64 → IsTime (cast_signed w64 n)
time_is n h = (omega (arith, ints), omega (arith, ints))
