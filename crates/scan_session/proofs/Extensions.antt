-- What a look says of which snapshots extend which.
use Rattle.std.proofs.Common.{◌≡◌, ℕ, ◌<◌, ◌≤◌, refl, sym, subst}
use Rattle.std.specs.Prelude.{Bool, true, false, Option, Some, None, MatchOption}
use Rattle.std.specs.Arc.{arc_value}
use Rattle.std.specs.declared.sync.Arc.{Arc}
use Rattle.tablet_view.specs.Extending.{Extends}
use Rattle.tablet_view.specs.Snapshot.{Snapshot}
use Rattle.tablet_view.proofs.Orders.{extends_trans}
use Rattle.scan_session.specs.Looks.{Found, Leads}

-- a view that a look answers extends the one that was there
pub answer_extends : {Z : Type 0} (looks : Bool) (before after : Option Snapshot) (than : ℕ) (answer : Option (Arc Snapshot Z)) (view : Arc Snapshot Z) (pinned : Snapshot)
    → answer ≡ Some view → Leads looks before pinned → (looks ≡ true → (x : Snapshot) × Found before after than answer x)
    → (looks ≡ false → (after ≡ before) × (answer ≡ None)) → Extends (arc_value view) pinned
answer_extends false before after than answer view pinned e leads found blind = absurd (let none : answer ≡ None = (blind refl).1 in cc)
answer_extends true before after than answer view pinned e leads found blind =
    let led = leads refl in
    let seen = found refl in
    let is : arc_value view ≡ seen.0 = (subst (λ o. MatchOption o (seen.0.version ≤ than) (λ a. (arc_value a ≡ seen.0) × (than < seen.0.version))) e seen.1.answer_is).0 in
    extends_trans (arc_value view) led.0 pinned (subst (λ x. Extends x led.0) (sym is) (seen.1.later led.0 led.1)) led.2
