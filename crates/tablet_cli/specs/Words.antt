-- The words of the command line. All of this is this project's own.
use Rattle.std.specs.Prelude.{ℕ, ◌&&◌, ◌≤◌, nat_le, if◌then◌else◌, List, [], ◌∷◌, Option, Some, None, option_map, codes, String, ⊤}
use Rattle.std.specs.Str.{bytes_eq}
use Rattle.std.specs.String.{string_bytes}
use Rattle.std.specs.declared.alloc.Global.{Global}
use Rattle.script_text.specs.Numbers.{number_of}
use Rattle.script_text.specs.Reading.{◌>>=◌}
use Rattle.live_tablet.specs.declared.running.LiveShape.{LiveShape}
use Rattle.tablet_cli.specs.declared.command_word.Command.{Command}
use Rattle.tablet_cli.specs.declared.command_word.Command.TheVariants as command
use Rattle.tablet_cli.specs.declared.command_word.Reply.{Reply}
use Rattle.tablet_cli.specs.declared.command_word.Reply.TheVariants.{Replay, Pack, Show, Upgrade}

-- the command of one word
abbrev pub reply_of_word : List ℕ → Option Reply
reply_of_word word =
    if bytes_eq word (codes "replay") then Some Replay else
    if bytes_eq word (codes "pack") then Some Pack else
    if bytes_eq word (codes "show") then Some Show else
    if bytes_eq word (codes "upgrade") then Some Upgrade else None

-- a number of 1 to 10 decimal digits, which may begin with zeros, in a range
abbrev pub number_between : ℕ → ℕ → List ℕ → Option ℕ
number_between low high word = do
  n ← number_of word
  if nat_le low n && nat_le n high then Some n else None

-- `gen` with its two words: a start of 31 bits, and 1 to 100,000 mutations
abbrev pub generate_of : List ℕ → List ℕ → Option Command
generate_of start size = do
  start ← number_between 0 2147483647 start
  size ← number_between 1 100000 size
  Some (command.Generate start size)

-- `live` with its three words: 1 to 8 scanners, and 1 to 1,000 mutations a chunk and entries a fetch
abbrev pub live_of : List ℕ → List ℕ → List ℕ → Option Command
live_of scanners chunk batch = do
  scanners ← number_between 1 8 scanners
  chunk ← number_between 1 1000 chunk
  batch ← number_between 1 1000 batch
  Some (command.Live (record { scanners = scanners; chunk = chunk; batch = batch }))

-- a shape of `live` is within these bounds
pub record IsShape (shape : LiveShape) : Type 0 where
  pub scanners : (1 ≤ shape.scanners) × (shape.scanners ≤ 8)
  pub sizes : (1 ≤ shape.chunk) × (1 ≤ shape.batch)

-- so is that of a command, if it has one
abbrev pub HasShape : Option Command → Type 0
HasShape (Some (command.Live shape)) = IsShape shape
HasShape _ = ⊤

-- the command that the words name, if they name one
abbrev pub command_of : List (String Global) → Option Command
command_of (word ∷ []) = option_map command.Reply (reply_of_word (string_bytes word))
command_of (word ∷ start ∷ size ∷ []) = if bytes_eq (string_bytes word) (codes "gen") then generate_of (string_bytes start) (string_bytes size) else None
command_of (word ∷ scanners ∷ chunk ∷ batch ∷ []) =
    if bytes_eq (string_bytes word) (codes "live") then live_of (string_bytes scanners) (string_bytes chunk) (string_bytes batch) else None
command_of _ = None

-- what is written where the words name no command
abbrev pub usage_line : List ℕ
usage_line = codes "usage: replay | live SCANNERS CHUNK BATCH | pack | show | gen START SIZE | upgrade\n"
