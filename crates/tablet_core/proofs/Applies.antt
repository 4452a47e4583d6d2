-- A mutation comes in.
use Rattle.std.proofs.Common.{◌≡◌, ℕ, ◌+◌, ◌≤◌, cond, ◌∷◌, [], ◌++◌, length, Option, None, is_some, option_map, refl, sym, ap, arith, pos, length-append}
use Rattle.tablet_model.specs.History.{RowChange, entries_of}
use Rattle.tablet_model.specs.Ingest.{Refusal}
use Rattle.tablet_model.specs.Steps.{applied as came_in, apply, log_after, refuse, refused, step, step_answer}
use Rattle.tablet_model.specs.Sum.{sum_of}
use Rattle.tablet_view.specs.Snapshot.{IsStanding, after_apply, refused_by, store_of}
use Rattle.tablet_view.proofs.Orders.{extends_applied}
use Rattle.tablet_core.specs.State.{CoreState, IsStandingCore, state_of}
use Rattle.tablet_core.proofs.Moves.{IsMade, core_stands, next_version, reason}

pub apply_reason : (k : CoreState) (m : RowChange) (o : Option Refusal) → refused_by k.view m ≡ o → reason (apply m) k ≡ option_map refused o
unfolding refuse state_of store_of
apply_reason k m o h = ap (option_map refused) h

pub apply_made : (k : CoreState) (m : RowChange) → refused_by k.view m ≡ None → IsMade (apply m) k (record k { view = after_apply k.view m }) (came_in (length k.view.log + 1))
unfolding state_of store_of step step_answer log_after
apply_made k m h = record {
  free = apply_reason k m None h;
  answer = refl;
  store = λ i. record { count = length-append k.view.log (m ∷ []) i; files = k.view.files; next = k.next; frozen = k.view.frozen; memory = sum_of k.view.memory (entries_of (pos (length k.view.log + 1)) m); jobs = k.jobs };
  log = sym (ap (λ o. cond (is_some o) k.view.log (k.view.log ++ m ∷ [])) h);
  extends = extends_applied k.view m;
  version_rises_by_one_at_most = next_version k.view.version;
}

pub apply_stands : (k : CoreState) (m : RowChange) → refused_by k.view m ≡ None → IsStanding k.view → IsStandingCore k → IsStandingCore (record k { view = after_apply k.view m })
apply_stands k m h v i = core_stands (apply m) k (record k { view = after_apply k.view m }) (came_in (length k.view.log + 1)) v i (apply_made k m h) (more k.next (k.view.version + 1))
  where
    more : (a b : ℕ) → a ≤ b → a ≤ b + 1
    more a b h = omega arith
