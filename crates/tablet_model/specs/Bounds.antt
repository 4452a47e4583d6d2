-- How long the parts of a key may be.
use Rattle.std.specs.Prelude.{ℕ, ℤ, pos, negsuc, ◌≤◌, ◌≤ℤ◌, List, length}
use Rattle.std.specs.List.{AllByRecursion}
use Rattle.tablet_model.specs.Limits.{max_part}
use Rattle.tablet_model.specs.Cell.{Cell}

-- this project's bounds: a row has 1 to 1,024 bytes, and no other part is longer
abbrev pub KeyBounds : List ℕ → List ℕ → List ℕ → List ℕ → Type 0
KeyBounds row family qualifier visibility =
    (1 ≤ length row) × (length row ≤ max_part) × (length family ≤ max_part) × (length qualifier ≤ max_part) × (length visibility ≤ max_part)

-- a timestamp is a signed 64-bit number (Accumulo)
abbrev pub IsTime : ℤ → Type 0
IsTime t = (negsuc 9223372036854775807 ≤ℤ t) × (t ≤ℤ pos 9223372036854775807)

-- an entry whose key is within these bounds
abbrev pub IsEntry : Cell → Type 0
IsEntry e = KeyBounds e.key.row e.key.family e.key.qualifier e.key.visibility × IsTime e.key.time

-- each entry of a list is within them
abbrev pub AreEntries : List Cell → Type 0
AreEntries list = AllByRecursion IsEntry list
