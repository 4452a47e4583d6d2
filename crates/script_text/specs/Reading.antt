-- What it is to read a text: there is one reading or none.
use Rattle.std.specs.Prelude.{◌≡◌, Option, Some, None, option_and_then, Result, Ok, Err}
use Rattle.script_text.specs.declared.line.LineError.{LineError}
use Rattle.script_text.specs.declared.line.LineError.TheVariants.{Syntax, NoMemory}

-- the readings in a row of a `do` block: none as soon as one is none
infixl 10 ◌>>=◌
abbrev pub ◌>>=◌ : {A B : Type 0} → Option A → (A → Option B) → Option B
reading >>= next = option_and_then next reading

-- an answer, seen by view, is the reading; it is Syntax exactly where there is none, but memory may be wanting
abbrev pub Gives : {X A : Type 0} → (X → A) → Option A → Result X LineError → Type 0
Gives view reading (Ok x) = reading ≡ Some (view x)
Gives view reading (Err Syntax) = reading ≡ None
Gives view reading (Err NoMemory) = Unit {0}
