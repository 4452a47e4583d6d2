-- What the code has of a text that it reads, and what it answers.
use Rattle.std.specs.Prelude.{◌≡◌, ℕ, Result, Ok, Err, ⊤}
use Rattle.whole_row.specs.declared.error.RowError.{RowError}
use Rattle.whole_row.specs.declared.error.RowError.TheVariants.{Fault, NoMemory}

-- an error is the fault of a reading, unless memory was wanting
abbrev pub Fails : {Y : Type 0} → RowError → Result Y ℕ → Type 0
Fails (Fault at) reading = reading ≡ Err at
Fails NoMemory reading = ⊤

-- an answer, seen by view, is the reading, unless memory was wanting
abbrev pub Gives : {X Y : Type 0} → (X → Y) → Result X RowError → Result Y ℕ → Type 0
Gives view (Ok x) reading = reading ≡ Ok (view x)
Gives view (Err error) reading = Fails error reading
