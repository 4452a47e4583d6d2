-- What a call leaves that writes a reply in pieces. All of this is this project's own.
use Rattle.std.specs.Prelude.{ℕ, ◌≤◌, Bool, true, false, List, Option, Result, Ok, Err}
use Rattle.tablet_io.specs.Causes.{Rose}
use Rattle.tablet_io.specs.Streams.{IsFrontTaken, IsSent, IsTaken}
use Rattle.tablet_replay.specs.declared.outcome.Outcome.{Outcome}
use Rattle.tablet_replay.specs.declared.outcome.Outcome.TheVariants.{Answered, Refused}
use Rattle.tablet_replay.specs.declared.outcome.ReplyError.{ReplyError}
use Rattle.tablet_replay.specs.declared.outcome.ReplyError.TheVariants.{Write, NoMemory}

-- the bytes were sent, or stand in the text still; after a failure a front of them was sent
abbrev pub Sends : List ℕ → Option (List ℕ) → Option (List ℕ) → List ℕ → Result (Unit {0}) ReplyError → Type 0
Sends bytes before after text (Ok _) = IsSent bytes before after text
Sends bytes before after text (Err _) = IsFrontTaken bytes before after

-- the bytes were sent; after a failure a front of them was
abbrev pub Replies : {X : Type 0} → List ℕ → Option (List ℕ) → Option (List ℕ) → Result X ReplyError → Type 0
Replies bytes before after (Ok _) = IsTaken bytes before after
Replies bytes before after (Err _) = IsFrontTaken bytes before after

-- a write failed only where the sink's count rose
abbrev pub HasCause : {X : Type 0} → ℕ → ℕ → Result X ReplyError → Type 0
HasCause before now (Ok _) = before ≤ now
HasCause before now (Err Write) = (before ≤ now) × Rose before now
HasCause before now (Err NoMemory) = before ≤ now

-- whether an outcome is a refusal
abbrev pub is_refusal : Outcome → Bool
is_refusal Answered = false
is_refusal Refused = true
