-- What the code answers where a text spells bytes, and where it doesn't. All of this is this project's own.
use Rattle.std.specs.Prelude.{◌≡◌, ℕ, List, Result, Ok, Err, ⊤}
use Rattle.cell_key.specs.declared.unescaping.TextError.{TextError}
use Rattle.cell_key.specs.declared.unescaping.TextError.TheVariants.{Fault, NoMemory}

-- the answer is the bytes that were read or the place of the fault, unless memory was wanting
abbrev pub Unescapes : Result (List ℕ) ℕ → Result (List ℕ) TextError → Type 0
Unescapes read (Ok bytes) = read ≡ Ok bytes
Unescapes read (Err (Fault at)) = read ≡ Err at
Unescapes read (Err NoMemory) = ⊤
