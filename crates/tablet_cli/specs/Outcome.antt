-- What each status says of the source and of the sink. All of this is this project's own.
use Rattle.std.specs.Prelude.{◌≡◌, ◌⊎◌, ℕ, Bool, true, false, ◌≤◌, ◌<◌, Option, Some, None, List, [], length, IfSome, ⊤}
use Rattle.tablet_io.specs.Causes.{Rose}
use Rattle.tablet_io.specs.Streams.{Took, IsFrontTaken, IsTaken}
use Rattle.tablet_cli.specs.declared.status.Status.{Status}
use Rattle.tablet_cli.specs.declared.status.Status.TheVariants.{Done, Usage, BadConfig, ReadFault, WriteFault, NoMemory, TooLong, BadImage}
use Rattle.tablet_replay.specs.Packing.{pack_text}
use Rattle.tablet_replay.specs.Replay.{is_refused, replay_text}
use Rattle.tablet_replay.specs.Showing.{is_no_image, show_text, upgrade_bytes}
use Rattle.tablet_gen.specs.Summary.{summary_text}
use Rattle.live_tablet.specs.declared.running.LiveShape.{LiveShape}
use Rattle.live_script.specs.Texts.{IsLiveReply}
use Rattle.tablet_cli.specs.declared.command_word.Command.{Command}
use Rattle.tablet_cli.specs.declared.command_word.Command.TheVariants as command
use Rattle.tablet_cli.specs.declared.command_word.Reply.{Reply}
use Rattle.tablet_cli.specs.declared.command_word.Reply.TheVariants.{Replay, Pack, Show, Upgrade}
use Rattle.tablet_cli.specs.Words.{usage_line}

-- what a source or a sink tells of its bytes, and its count of faults, before a call and after it
pub record Port : Type 0 where
  pub before : Option (List ℕ)
  pub after : Option (List ℕ)
  pub faults_before : ℕ
  pub faults_after : ℕ

-- a source or a sink, by what it tells and by its count
abbrev pub port : {S : Type 0} → (S → Option (List ℕ)) → (S → ℕ) → S → S → Port
port bytes faults old new = record { before = bytes old; after = bytes new; faults_before = faults old; faults_after = faults new }

-- it is as before
abbrev pub IsUntouched : Port → Type 0
IsUntouched p = (p.after ≡ p.before) × (p.faults_after ≡ p.faults_before)

-- a fault was counted
abbrev pub HasFault : Port → Type 0
HasFault p = Rose p.faults_before p.faults_after

-- how many bytes an input has at the most
abbrev pub max_input : ℕ
max_input = 8388608

-- the input was read to its end, and is not too long
abbrev pub WasRead : Port → List ℕ → Type 0
WasRead i bytes = (length bytes ≤ max_input) × (i.after ≡ Some [])

-- more bytes than an input may have were taken
abbrev pub WasTooLong : Port → List ℕ → Type 0
WasTooLong i bytes = (n : ℕ) × (max_input < n) × Took n bytes i.after

-- no more bytes than an input may have were taken
abbrev pub WasNotTooLong : Port → List ℕ → Type 0
WasNotTooLong i bytes = (n : ℕ) × (n ≤ max_input) × Took n bytes i.after

-- a text was appended to what the sink had taken
abbrev pub IsWritten : Port → List ℕ → Type 0
IsWritten o text = IsTaken text o.before o.after

-- a prefix of it was
abbrev pub IsFrontWritten : Port → List ℕ → Type 0
IsFrontWritten o text = IsFrontTaken text o.before o.after

-- what a command does that reads an input, by its status: over a source that tells its bytes the text is that of these bytes, and its
-- end is theirs, unless a fault or want of memory comes between: then nothing was written, or the first bytes of the text
abbrev pub Answers : (List ℕ → List ℕ) → (List ℕ → Status) → Port → Port → Status → Type 0
Answers text end i o WriteFault = HasFault o × IfSome i.before (λ bytes. WasRead i bytes × IsFrontWritten o (text bytes))
Answers text end i o ReadFault = HasFault i × IfSome i.before (WasNotTooLong i) × IsUntouched o
Answers text end i o TooLong = IfSome i.before (WasTooLong i) × IsUntouched o
Answers text end i o NoMemory = (IfSome i.before (WasNotTooLong i) × IsUntouched o) ⊎ IfSome i.before (λ bytes. WasRead i bytes × IsFrontWritten o (text bytes))
Answers text end i o Usage = ⊥
Answers text end i o status = IfSome i.before (λ bytes. WasRead i bytes × (end bytes ≡ status) × IsWritten o (text bytes))

-- what a command writes for an input
abbrev pub reply_text : Reply → List ℕ → List ℕ
reply_text Replay bytes = replay_text bytes
reply_text Pack bytes = pack_text bytes
reply_text Show bytes = show_text bytes
reply_text Upgrade bytes = upgrade_bytes bytes

-- whether a command refuses an input: its configuration, or that it is no image
abbrev pub refuses : Reply → List ℕ → Bool
refuses Replay bytes = is_refused bytes
refuses Pack bytes = is_refused bytes
refuses Show bytes = is_no_image bytes
refuses Upgrade bytes = is_no_image bytes

-- how a command ends that refuses its input, or doesn't
abbrev pub end_of : Reply → Bool → Status
end_of _ false = Done
end_of Replay true = BadConfig
end_of Pack true = BadConfig
end_of Show true = BadImage
end_of Upgrade true = BadImage

-- how it ends, where nothing comes between
abbrev pub reply_end : Reply → List ℕ → Status
reply_end reply bytes = end_of reply (refuses reply bytes)

-- what a command does
abbrev pub Performs : Reply → Port → Port → Status → Type 0
Performs reply i o status = Answers (reply_text reply) (reply_end reply) i o status

-- what `gen` does: the summary of these numbers was written, or its first bytes before a fault, or nothing for want of memory
abbrev pub Generates : ℕ → ℕ → Port → Status → Type 0
Generates start size o Done = IsWritten o (summary_text start size)
Generates start size o WriteFault = HasFault o × IsFrontWritten o (summary_text start size)
Generates start size o NoMemory = IsUntouched o
Generates start size o _ = ⊥

-- what a command does that may write one of several texts for an input, by its status: the end is that of the input, unless a fault or want
-- of memory comes between: then nothing was written, or after a failed write the first bytes of such a text
abbrev pub AnswersOne : (List ℕ → List ℕ → Type 0) → (List ℕ → Status) → Port → Port → Status → Type 0
AnswersOne allowed end i o WriteFault = HasFault o × IfSome i.before (λ bytes. WasRead i bytes × ((text : List ℕ) × allowed bytes text × IsFrontWritten o text))
AnswersOne allowed end i o ReadFault = HasFault i × IfSome i.before (WasNotTooLong i) × IsUntouched o
AnswersOne allowed end i o TooLong = IfSome i.before (WasTooLong i) × IsUntouched o
AnswersOne allowed end i o NoMemory = IfSome i.before (WasNotTooLong i) × IsUntouched o
AnswersOne allowed end i o Usage = ⊥
AnswersOne allowed end i o status = IfSome i.before (λ bytes. WasRead i bytes × (end bytes ≡ status) × ((text : List ℕ) × allowed bytes text × IsWritten o text))

-- what `live` does: it ends as `replay` does for the same input
abbrev pub Lives : LiveShape → Port → Port → Status → Type 0
Lives shape i o status = AnswersOne (IsLiveReply shape) (reply_end Replay) i o status

-- what `run` does, by the command that the words name
abbrev pub Runs : Option Command → Port → Port → Status → Type 0
Runs (Some (command.Reply reply)) i o status = Performs reply i o status
Runs (Some (command.Generate start size)) i o status = IsUntouched i × Generates start size o status
Runs (Some (command.Live shape)) i o status = Lives shape i o status
Runs None i o Usage = IsUntouched i × IsWritten o usage_line
Runs None i o WriteFault = IsUntouched i × HasFault o × IsFrontWritten o usage_line
Runs None i o _ = ⊥

-- the whole text was written, or memory was wanting
abbrev pub IsDoneOrNoMemory : Status → Type 0
IsDoneOrNoMemory Done = ⊤
IsDoneOrNoMemory NoMemory = ⊤
IsDoneOrNoMemory _ = ⊥

-- with an input that is not too long, an accepted configuration or an image, and no fault there is no other end
abbrev pub IsComplete : Reply → Port → Port → Status → Type 0
IsComplete reply i o status = IfSome i.before (λ bytes. length bytes ≤ max_input → reply_end reply bytes ≡ Done → ¬ HasFault i → ¬ HasFault o → IsDoneOrNoMemory status)

-- without a fault there is no other end
abbrev pub IsDone : Port → Status → Type 0
IsDone o status = ¬ HasFault o → IsDoneOrNoMemory status

-- the same of the command that the words name, if they name one
abbrev pub IsRunComplete : Option Command → Port → Port → Status → Type 0
IsRunComplete None i o status = ⊤
IsRunComplete (Some (command.Reply reply)) i o status = IsComplete reply i o status
IsRunComplete (Some (command.Generate start size)) i o status = IsDone o status
IsRunComplete (Some (command.Live shape)) i o status = IsComplete Replay i o status
