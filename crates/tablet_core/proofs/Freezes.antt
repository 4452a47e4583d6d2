-- The memory is frozen.
use Rattle.std.proofs.Common.{◌≡◌, ℕ, ◌+◌, ◌≤◌, Bool, false, cond, List, length, Option, Some, None, is_some, option_map, refl, sym, ap, ◌∙◌, arith}
use Rattle.tablet_model.specs.Cell.{Cell}
use Rattle.tablet_model.specs.Steps.{froze, freeze, frozen_there, is_empty, log_after, nothing_in_memory, refuse, step, step_answer}
use Rattle.tablet_model.proofs.Ingests.{none_cond}
use Rattle.tablet_view.specs.Snapshot.{IsStanding, after_freeze, store_of}
use Rattle.tablet_view.proofs.Orders.{extends_frozen}
use Rattle.tablet_core.specs.State.{CoreState, IsStandingCore, state_of}
use Rattle.tablet_core.proofs.Moves.{IsMade, core_stands, next_version, reason}

-- whether there is a frozen part, by the number of its entries
pub is_frozen : (o : Option (List Cell)) (n : Option ℕ) (b : Bool) → n ≡ option_map (λ z. length z) o → b ≡ is_some n → is_some o ≡ b
is_frozen o n b e f = sym (f ∙ ap is_some e ∙ counted o)
  where
    counted : (o : Option (List Cell)) → is_some (option_map (λ z. length z) o) ≡ is_some o
    counted None = refl
    counted (Some z) = refl

-- why it is not
pub freeze_reason : (k : CoreState) (b d : Bool) → is_some k.view.frozen ≡ b → is_empty k.view.memory ≡ d → reason freeze k ≡ cond b (Some frozen_there) (cond d (Some nothing_in_memory) None)
unfolding refuse state_of store_of
freeze_reason k b d h e = λ i. cond (h i) (Some frozen_there) (cond (e i) (Some nothing_in_memory) None)

pub freeze_free : (k : CoreState) → reason freeze k ≡ None → k.view.frozen ≡ None
unfolding refuse state_of store_of
freeze_free k h = go k.view.frozen (none_cond (is_some k.view.frozen) frozen_there (cond (is_empty k.view.memory) (Some nothing_in_memory) None) h).0
  where
    go : (o : Option (List Cell)) → is_some o ≡ false → o ≡ None
    go None k = refl
    go (Some l) k = absurd (grind arith)

pub freeze_made : (k : CoreState) → reason freeze k ≡ None → IsMade freeze k (record k { view = after_freeze k.view }) (froze (length k.view.memory))
unfolding state_of store_of step step_answer log_after
freeze_made k h = record { free = h; answer = refl; store = refl; log = refl; extends = extends_frozen k.view; version_rises_by_one_at_most = next_version k.view.version }

pub freeze_stands : (k : CoreState) → reason freeze k ≡ None → IsStanding k.view → IsStandingCore k → IsStandingCore (record k { view = after_freeze k.view })
freeze_stands k h v i = core_stands freeze k (record k { view = after_freeze k.view }) (froze (length k.view.memory)) v i (freeze_made k h) (more k.next (k.view.version + 1))
  where
    more : (a b : ℕ) → a ≤ b → a ≤ b + 1
    more a b h = omega arith
