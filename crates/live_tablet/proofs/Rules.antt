-- Each step keeps the rule over the published view. `at` is the view of what is published.
use Rattle.std.proofs.Common.{◌≡◌, ℕ, ◌≢◌, List, [], ◌∷◌, ◌++◌, set, refl, sym, ap, subst, ◌∙◌, ⊎_elim, Some, None, Option, Result, Ok, Err, MatchResult, fold}
use mathlib.Core.Option.{some}
use lib.ListN.{get_elem?}
use Rattle.left_right.specs.Register.{Admits, TurnsAt, Forks, Merges}
use Rattle.atomic_table.proofs.Lists.{at_set, at_snoc}
use Rattle.tablet_view.specs.Extending.{Extends}
use Rattle.tablet_view.specs.Snapshot.{Snapshot}
use Rattle.tablet_view.proofs.Orders.{extends_refl, extends_trans}
use Rattle.std.specs.Arc.{arc_value}
use Rattle.std.specs.declared.sync.Arc.{Arc}
use Rattle.live_tablet.specs.Rules.{Covers, ExtendsKnown, Knows}
use Rattle.live_tablet.specs.declared.published.Published.{Published}

some_same : (u v : Snapshot) → Some u ≡ Some v → u ≡ v
some_same u v e = cc

extends_same : (u v : Snapshot) → Some u ≡ Some v → Extends u v
extends_same u v e = subst (λ z. Extends u z) (some_same u v e) (extends_refl u)

module _ {T : Type 0} (at : T → Snapshot) where
  pub admits : Admits (λ (x : T). Covers (at x)) None
  admits x views h seat u e = ⊎_elim (h seat u) (λ (q : None ≡ Some u). absurd (cc)) (at_snoc views None (Some u) seat e)

  pub shows : (seat : ℕ) (v : Option Snapshot) (x y : T) → Extends (at y) (at x) → TurnsAt (λ (c : T). Covers (at c)) seat v x y (λ v x y w. ExtendsKnown (at x) v × (w ≡ Some (at y)))
  shows seat v x y up views h here = (
    Some (at y),
    (λ j u e. ⊎_elim (λ (t : (j ≡ seat) × (Some (at y) ≡ Some u)). extends_same (at y) u t.1) (λ (t : (j ≢ seat) × (get_elem? views j ≡ some (Some u))). extends_trans (at y) (at x) u up (h j u t.1))
        (at_set views seat j (Some (at y)) (Some u) e)),
    ((λ u e. h seat u (here ∙ ap some e)), refl),
  )

  pub forks : (seat : ℕ) (v : Option Snapshot) → Forks (λ (x : T). Covers (at x)) seat v v v
  forks seat v x views h here j u e = ⊎_elim
      (λ (old : get_elem? (set views seat v) j ≡ some (Some u)). ⊎_elim (λ (t : (j ≡ seat) × (v ≡ Some u)). h seat u (here ∙ ap some t.1)) (λ (t : (j ≢ seat) × (get_elem? views j ≡ some (Some u))). h j u t.1) (at_set views seat j v (Some u) old))
      (λ (new : v ≡ Some u). h seat u (here ∙ ap some new))
      (at_snoc (set views seat v) v (Some u) j e)

  -- a reader takes the view of a note in place of its own
  pub merges : (seat : ℕ) (v : Option Snapshot) (other : ℕ) (w : Option Snapshot) → Merges (λ (x : T). Covers (at x)) seat v other w w None
  merges seat v other w x views h here apart there j u e =
      let known : w ≡ Some u → Extends (at x) u = λ q. ⊎_elim
      (λ (t : (other ≡ seat) × (w ≡ w)). absurd (apart t.0))
      (λ (t : (other ≢ seat) × (get_elem? views other ≡ some w)). h other u (t.1 ∙ ap some q))
      (at_set views seat other w w there) in ⊎_elim
      (λ (t : (j ≡ other) × (None ≡ Some u)). absurd (cc))
      (λ (t : (j ≢ other) × (get_elem? (set views seat w) j ≡ some (Some u))). ⊎_elim
      (λ (s : (j ≡ seat) × (w ≡ Some u)). known (s.1))
      (λ (s : (j ≢ seat) × (get_elem? views j ≡ some (Some u))). h j u s.1)
      (at_set views seat j w (Some u) t.1))
      (at_set (set views seat w) other j None (Some u) e)

-- the view of what is published
abbrev pub view_at : Published → Snapshot
view_at p = arc_value p.view

-- a look finds a view that extends the newest one
pub looked : (x newest : Snapshot) (known after : Option Snapshot) → Knows known newest → ExtendsKnown x known → after ≡ Some x → Extends x newest × Knows after x
looked x newest known after k e is = (extends_trans x k.0 newest (e k.0 k.1) k.2, (x, is, extends_refl x))

fold_last : {S O : Type 0} (f : O → S) (s : S) (xs : List O) (x : O) → fold (λ (_ : S) (o : O). f o) s (xs ++ x ∷ []) ≡ f x
fold_last f s [] x = refl
fold_last f s (y ∷ ys) x = fold_last f (f y) ys x

-- of the views that are pending the last is published
pub publishes_last : {Z : Type 0} (s : Snapshot) (pending before : List (Arc Snapshot Z)) (next : Arc Snapshot Z) → pending ≡ before ++ next ∷ [] → fold (λ (_ : Snapshot) (o : Arc Snapshot Z). arc_value o) s pending ≡ arc_value next
publishes_last {Z = Z} s pending before next e = rw e (fold_last (λ (o : Arc Snapshot Z). arc_value o) s before next)

pub pushed : {A E : Type 0} (r : Result A E) (now old : Published) (told found : Snapshot) (rest rest' : Type 0) → found ≡ told → MatchResult r (λ _. (view_at now ≡ found) × rest) (λ _. (now ≡ old) × rest') → MatchResult r (λ _. view_at now ≡ told) (λ _. now ≡ old)
pushed (Ok a) now old told found rest rest' e h = h.0 ∙ e
pushed (Err x) now old told found rest rest' e h = h.0
