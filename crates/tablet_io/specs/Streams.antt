-- What a read and a write of all bytes do. All of this is this project's own.
use Rattle.std.specs.Prelude.{◌≡◌, ℕ, ◌≤◌, ◌<◌, Option, Some, List, [], ◌++◌, length, take, drop, Result, Ok, Err, IfSome}
use Rattle.tablet_io.specs.declared.streams.ReadError.{ReadError}
use Rattle.tablet_io.specs.declared.streams.ReadError.TheVariants.{Fault, TooLong, NoMemory}

-- the first n bytes that were left were taken, and the others are left
pub record Took (n : ℕ) (left : List ℕ) (after : Option (List ℕ)) : Type 0 where
  pub there : n ≤ length left
  pub rest : after ≡ Some (drop n left)

-- what a read of all bytes answers, over the bytes that were left: all of them, or more than `max` were taken, or not more
abbrev pub ReadsAll : ℕ → List ℕ → Option (List ℕ) → Result (List ℕ) ReadError → Type 0
ReadsAll max left after (Ok text) = (text ≡ left) × (length left ≤ max) × (after ≡ Some [])
ReadsAll max left after (Err TooLong) = (n : ℕ) × (max < n) × Took n left after
ReadsAll max left after (Err Fault) = (n : ℕ) × (n ≤ max) × Took n left after
ReadsAll max left after (Err NoMemory) = (n : ℕ) × (n ≤ max) × Took n left after

-- a prefix of the bytes was appended to what a sink had taken, where it tells it
abbrev pub IsFrontTaken : List ℕ → Option (List ℕ) → Option (List ℕ) → Type 0
IsFrontTaken bytes before after = IfSome before (λ taken. (n : ℕ) × (n ≤ length bytes) × (after ≡ Some (taken ++ take n bytes)))

-- the bytes were appended to what a sink had taken, where it tells it
abbrev pub IsTaken : List ℕ → Option (List ℕ) → Option (List ℕ) → Type 0
IsTaken bytes before after = IfSome before (λ taken. after ≡ Some (taken ++ bytes))

-- a front of the bytes was appended to what a sink had taken, where it tells it, and the others stand in a text
pub record IsSent (bytes : List ℕ) (before after : Option (List ℕ)) (text : List ℕ) : Type 0 where
  pub parted : IfSome before (λ taken. (front : List ℕ) × (bytes ≡ front ++ text) × (after ≡ Some (taken ++ front)))

-- how many bytes a text has at the least that is sent before the end
abbrev pub piece_size : ℕ
piece_size = 65536
