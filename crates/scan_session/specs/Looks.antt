-- What a look for newer views finds. All of this is this project's own.
use Rattle.std.specs.Prelude.{◌≡◌, ℕ, ◌<◌, ◌≤◌, Bool, true, Option, Some, MatchOption}
use Rattle.std.specs.Arc.{arc_value}
use Rattle.std.specs.declared.sync.Arc.{Arc}
use Rattle.tablet_view.specs.Extending.{Extends}
use Rattle.tablet_view.specs.Snapshot.{Snapshot}

-- a look found a view, which extends the newest one before it and is the newest one after it; the answer is that view exactly where its
-- version is above the one that was asked for
pub record Found {Z : Type 0} (before after : Option Snapshot) (than : ℕ) (answer : Option (Arc Snapshot Z)) (x : Snapshot) : Type 0 where
  pub later : (u : Snapshot) → before ≡ Some u → Extends x u
  pub newest : after ≡ Some x
  pub answer_is : MatchOption answer (x.version ≤ than) (λ a. (arc_value a ≡ x) × (than < x.version))

-- where views are looked at, the newest one is there and extends s
abbrev pub Leads : Bool → Option Snapshot → Snapshot → Type 0
Leads looks newest s = looks ≡ true → (u : Snapshot) × (newest ≡ Some u) × Extends u s

-- where views are looked at, the newest one extends that of before
abbrev pub IsLater : Bool → Option Snapshot → Option Snapshot → Type 0
IsLater looks before after = looks ≡ true → (u : Snapshot) → before ≡ Some u → (x : Snapshot) × (after ≡ Some x) × Extends x u

-- s extends the newest view, if there is one
abbrev pub Holds : Option Snapshot → Snapshot → Type 0
Holds newest s = (u : Snapshot) → newest ≡ Some u → Extends s u
