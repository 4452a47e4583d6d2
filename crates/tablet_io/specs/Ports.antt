-- What one call of a source or a sink does. All of this is this project's own.
use Rattle.std.specs.Prelude.{◌≡◌, ℕ, ◌≤◌, Option, Some, List, [], ◌++◌, length, take, drop, IfSome}
use Rattle.tablet_io.specs.Causes.{Rose}
use Rattle.tablet_io.specs.declared.ports.Got.{Got}
use Rattle.tablet_io.specs.declared.ports.Got.TheVariants as got
use Rattle.tablet_io.specs.declared.ports.Put.{Put}
use Rattle.tablet_io.specs.declared.ports.Put.TheVariants as put

-- what a read leaves
abbrev pub Reads : Option (List ℕ) → Option (List ℕ) → List ℕ → Got → Type 0
Reads before after buffer (got.Bytes n) = (1 ≤ n) × (n ≤ length buffer) × IfSome before (λ left. (n ≤ length left) × (take n buffer ≡ take n left) × (after ≡ Some (drop n left)))
Reads before after buffer got.End = IfSome before (λ left. (left ≡ []) × (after ≡ Some []))
Reads before after buffer got.Failed = after ≡ before

-- a read fails only where the count rose
abbrev pub ReadHasCause : ℕ → ℕ → Got → Type 0
ReadHasCause before now (got.Bytes n) = before ≤ now
ReadHasCause before now got.End = before ≤ now
ReadHasCause before now got.Failed = (before ≤ now) × Rose before now

-- what a write leaves
abbrev pub Writes : Option (List ℕ) → Option (List ℕ) → List ℕ → Put → Type 0
Writes before after bytes (put.Took n) = (1 ≤ n) × (n ≤ length bytes) × IfSome before (λ taken. after ≡ Some (taken ++ take n bytes))
Writes before after bytes put.Failed = after ≡ before

-- a write fails only where the count rose
abbrev pub WriteHasCause : ℕ → ℕ → Put → Type 0
WriteHasCause before now (put.Took n) = before ≤ now
WriteHasCause before now put.Failed = (before ≤ now) × Rose before now
