-- What a `SwitchIter` has, by what its stack has, and what its steps do. All of this is this project's own.
use Rattle.std.specs.Prelude.{◌≡◌, ℕ, ◌<◌, ◌≤◌, true, cond, List, []}
use Rattle.tablet_model.specs.Cell.{Cell}
use Rattle.tablet_model.specs.Cuts.{Span, within}
use Rattle.tablet_model.specs.Places.{after}
use Rattle.tablet_model.specs.Sorted.{later}
use Rattle.source_switch.specs.Parting.{Mode, mode_of, may_part, place_behind_first}
use Rattle.source_switch.specs.declared.switch.Advance.{Advance}
use Rattle.source_switch.specs.declared.switch.Advance.TheVariants.{Same, Switched}
use Rattle.source_switch.specs.declared.switch.SwitchIter.{SwitchIter}

-- an iterator but for what is left of it: the version and the number of mutations of its stack, the stack's entries, and the range and the
-- mode that it was made with
pub record SwitchState : Type 0 where
  pub version : ℕ
  pub n : ℕ
  pub cells : List Cell
  pub range : Span
  pub mode : Mode

module _ {S : Type 0} where
  abbrev pub switch_state : (S → List Cell) → SwitchIter S → SwitchState
  switch_state cells it = record { version = it.version; n = it.n; cells = cells it.stack; range = it.range; mode = mode_of it.rows }

  -- what its stack has left, once it was sought
  abbrev pub switch_rest : (S → List Cell) → SwitchIter S → List Cell
  switch_rest rest it = cond it.is_sought (rest it.stack) []

  -- its stack's parts fit together
  abbrev pub switch_valid : (S → Type 0) → SwitchIter S → Type 0
  switch_valid valid it = valid it.stack

-- a step over one stack drops the first entry, and where that may be parted from the next, no newer stack was there
pub record IsStep (old new : SwitchState) (before rest : List Cell) (version : ℕ) : Type 0 where
  pub same : new ≡ old
  pub left : rest ≡ later before
  pub current : may_part old.mode before ≡ true → version ≤ old.version

-- a switch stands where the first entry may be parted from the next, and goes on behind it over a newer stack
pub record IsSwitch (old new : SwitchState) (before rest : List Cell) (version n : ℕ) (given : List Cell) : Type 0 where
  pub parts : may_part old.mode before ≡ true
  pub newer : old.version < version
  pub now : new ≡ record old { version = version; n = n; cells = given }
  pub left : rest ≡ after (place_behind_first old.mode before) (within old.range given)

-- what a step did, beside a provider that has looked at a version, a number of mutations and a stack of these entries
abbrev pub HasAdvanced : Advance → SwitchState → SwitchState → List Cell → List Cell → ℕ → ℕ → List Cell → Type 0
HasAdvanced Same old new before rest version n given = IsStep old new before rest version
HasAdvanced Switched old new before rest version n given = IsSwitch old new before rest version n given
