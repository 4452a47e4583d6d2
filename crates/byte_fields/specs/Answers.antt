-- What the code has of bytes that it reads, and what it answers. All of this is this project's own.
use Rattle.std.specs.Prelude.{◌≡◌, ℕ, Result, Ok, Err}
use Rattle.byte_fields.specs.Fields.{Unread}
use Rattle.byte_fields.specs.declared.cut.Cut.{Cut}
use Rattle.byte_fields.specs.declared.input.Input.{Input}

-- what an input says
abbrev pub unread_of : Input → Unread
unread_of input = record { at = input.at; rest = input.rest.now }

-- an answer, seen by view, is the reading
abbrev pub Gives : {X Y : Type 0} → (X → Y) → Result X Cut → Result Y ℕ → Type 0
Gives view (Ok x) reading = reading ≡ Ok (view x)
Gives view (Err cut) reading = reading ≡ Err cut.at
