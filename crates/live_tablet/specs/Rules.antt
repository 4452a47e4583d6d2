-- The rule over the published view. All of this is this project's own.
use Rattle.std.specs.Prelude.{◌≡◌, ℕ, List, Option, Some}
use mathlib.Core.Option.{some}
use lib.ListN.{get_elem?}
use Rattle.tablet_view.specs.Extending.{Extends}
use Rattle.tablet_view.specs.Snapshot.{Snapshot}

-- x extends what is known, if anything is
abbrev pub ExtendsKnown : Snapshot → Option Snapshot → Type 0
ExtendsKnown x known = (u : Snapshot) → known ≡ Some u → Extends x u

-- x extends what each seat knows
abbrev pub Covers : Snapshot → List (Option Snapshot) → Type 0
Covers x views = (seat : ℕ) (u : Snapshot) → get_elem? views seat ≡ some (Some u) → Extends x u

-- a seat knows a view, which extends the newest one that its reader keeps
abbrev pub Knows : Option Snapshot → Snapshot → Type 0
Knows known newest = (v : Snapshot) × (known ≡ Some v) × Extends v newest
