-- What a call leaves that writes one of several texts. All of this is this project's own.
use Rattle.std.specs.Prelude.{◌≡◌, ℕ, List, Option, Result, Ok, Err}
use Rattle.tablet_io.specs.Streams.{IsFrontTaken, IsTaken}
use Rattle.tablet_replay.specs.declared.outcome.ReplyError.{ReplyError}
use Rattle.tablet_replay.specs.declared.outcome.ReplyError.TheVariants.{Write, NoMemory}

-- one of the texts was written; where a write failed, a front of one, and where memory was wanting, nothing
abbrev pub RepliesOne : {X : Type 0} → (List ℕ → Type 0) → Option (List ℕ) → Option (List ℕ) → Result X ReplyError → Type 0
RepliesOne allowed before after (Ok _) = (text : List ℕ) × allowed text × IsTaken text before after
RepliesOne allowed before after (Err Write) = (text : List ℕ) × allowed text × IsFrontTaken text before after
RepliesOne allowed before after (Err NoMemory) = after ≡ before
