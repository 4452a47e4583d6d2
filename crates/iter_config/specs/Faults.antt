-- Why a document is refused, and how answers stand to what is read. All of this is this project's own.
use Rattle.std.specs.Prelude.{◌≡◌, ℕ, Option, Some, None, option_and_then, Result, Ok, Err, ⊤}
use Rattle.iter_config.specs.declared.error.FieldError.{FieldError}
use Rattle.iter_config.specs.declared.error.FieldError.TheVariants as field
use Rattle.iter_config.specs.declared.error.ConfigError.{ConfigError}
use Rattle.iter_config.specs.declared.error.ConfigError.TheVariants as config
use Rattle.iter_config.specs.declared.error.Rule.{Rule}

-- the rule that is broken, and the number of the iterator that breaks it: its place in the array, from 1, or 0 for the document
pub record Fault : Type 0 where
  pub rule : Rule
  pub at : ℕ

-- a broken rule with its number
abbrev pub fault : Rule → ℕ → Fault
fault rule at = record { rule = rule; at = at }

-- the readings in a row of a `do` block: none as soon as one is none
infixl 10 ◌>>=◌
abbrev pub ◌>>=◌ : {A B : Type 0} → Option A → (A → Option B) → Option B
reading >>= next = option_and_then next reading

-- an answer, seen by view, is the reading; it is Field exactly where there is none, but memory may be wanting
abbrev pub Gives : {X A : Type 0} → (X → A) → Option A → Result X FieldError → Type 0
Gives view reading (Ok x) = reading ≡ Some (view x)
Gives view reading (Err field.Field) = reading ≡ None
Gives view reading (Err field.NoMemory) = ⊤

-- an answer, seen by view, is the reading; it is a refusal exactly where that is a fault, but memory may be wanting
abbrev pub Reads : {X A : Type 0} → (X → A) → Result A Fault → Result X ConfigError → Type 0
Reads view reading (Ok x) = reading ≡ Ok (view x)
Reads view reading (Err (config.Refused rule at)) = reading ≡ Err (fault rule at)
Reads view reading (Err config.NoMemory) = ⊤
