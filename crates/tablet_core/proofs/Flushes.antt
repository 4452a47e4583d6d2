-- The frozen part becomes a file.
use Rattle.std.proofs.Common.{◌≡◌, ℕ, ◌+◌, ◌<◌, ◌≤◌, Bool, true, false, cond, not, List, [], ◌∷◌, ◌++◌, length, nat_lt, Option, Some, None, IfSome, is_some, option_map, unwrap_or, refl, sym, ap, ◌∙◌, subst, arith}
use Rattle.tablet_model.specs.Cell.{Cell}
use Rattle.tablet_model.specs.Compactions.{minor_compaction}
use Rattle.tablet_model.specs.Rules.{AreStorable}
use Rattle.tablet_model.specs.Stands.{AreBelow}
use Rattle.tablet_model.specs.Steps.{flush, flushed as wrote, log_after, nothing_frozen, refuse, step, step_answer, too_many_files}
use Rattle.tablet_model.specs.Store.{frozen_of}
use Rattle.tablet_model.specs.Sum.{sum_all}
use Rattle.tablet_model.proofs.Ingests.{none_cond}
use Rattle.iter_config.specs.RulesOf.{rules_of}
use Rattle.iter_config.specs.Settings.{Settings}
use Rattle.compactor.specs.Compacted.{Compaction, entries_made}
use Rattle.iter_stack.specs.Usages.{usage_cells}
use Rattle.iter_stack.specs.declared.usage.Usage.TheVariants.{Minc}
use Rattle.tablet_view.specs.Snapshot.{IsStanding, Snapshot, after_flush, store_of}
use Rattle.tablet_view.proofs.Inputs.{frozen_input, frozen_storable}
use Rattle.tablet_view.proofs.Orders.{extends_flushed}
use Rattle.tablet_core.specs.Jobs.{flush_of}
use Rattle.tablet_core.specs.State.{CoreState, IsStandingCore, state_of}
use Rattle.tablet_core.proofs.Moves.{IsMade, core_stands, next_version, reason}

-- why it does not
pub flush_reason : (k : CoreState) (b d : Bool) → is_some k.view.frozen ≡ b → nat_lt (length k.view.files) 64 ≡ d → reason flush k ≡ cond (not b) (Some nothing_frozen) (cond d None (Some too_many_files))
unfolding refuse state_of store_of
flush_reason k b d h e = λ i. cond (not (h i)) (Some nothing_frozen) (cond (e i) None (Some too_many_files))

pub is_less : (a b : ℕ) → a < b → nat_lt a b ≡ true
is_less a b h = grind arith

pub is_more : (a b : ℕ) → b ≤ a → nat_lt a b ≡ false
is_more a b h = grind arith

pub flush_frozen : (k : CoreState) → reason flush k ≡ None → is_some k.view.frozen ≡ true
unfolding refuse state_of store_of
flush_frozen k h = yes (is_some k.view.frozen) (none_cond (not (is_some k.view.frozen)) nothing_frozen (cond (nat_lt (length k.view.files) 64) None (Some too_many_files)) h).0
  where
    yes : (b : Bool) → not b ≡ false → b ≡ true
    yes b h = grind arith

-- the core behind it
unfoldable pub flushed_core : CoreState → List Cell → CoreState
flushed_core k cells = record k { view = after_flush k.view k.next cells; next = k.next + 1 }

pub flush_made : (k : CoreState) (cells : List Cell) → reason flush k ≡ None → cells ≡ minor_compaction (rules_of k.view.config).minor (unwrap_or k.view.frozen []) → IsMade flush k (flushed_core k cells) (wrote k.next (length cells))
unfolding flushed_core state_of store_of step step_answer log_after frozen_of
flush_made k cells h m = record {
  free = h;
  answer = ap (λ l. wrote k.next (length l)) m;
  store = ap (λ l. record { count = length k.view.log; files = k.view.files ++ record { id = k.next; cells = l } ∷ []; next = k.next + 1; frozen = None; memory = k.view.memory; jobs = k.jobs }) m;
  log = refl;
  extends = extends_flushed k.view k.next cells;
  version_rises_by_one_at_most = next_version k.view.version;
}

pub flush_stands : (k : CoreState) (cells : List Cell) → reason flush k ≡ None → cells ≡ minor_compaction (rules_of k.view.config).minor (unwrap_or k.view.frozen []) → IsStanding k.view → IsStandingCore k → IsStandingCore (flushed_core k cells)
unfolding flushed_core
flush_stands k cells h m v i = core_stands flush k (flushed_core k cells) (wrote k.next (length cells)) v i (flush_made k cells h m) (both_more k.next (k.view.version + 1))
  where
    both_more : (a b : ℕ) → a ≤ b → a + 1 ≤ b + 1
    both_more a b h = omega arith

-- what was made of the frozen part, where there is one
pub made_of_frozen : (k : CoreState) (cells : List Cell) → reason flush k ≡ None → IfSome k.view.frozen (λ z. cells ≡ minor_compaction (rules_of k.view.config).minor z) → cells ≡ minor_compaction (rules_of k.view.config).minor (unwrap_or k.view.frozen [])
made_of_frozen k cells h = go k.view.frozen (flush_frozen k h)
  where
    go : (o : Option (List Cell)) → is_some o ≡ true → IfSome o (λ z. cells ≡ minor_compaction (rules_of k.view.config).minor z) → cells ≡ minor_compaction (rules_of k.view.config).minor (unwrap_or o [])
    go None h m = absurd (grind arith)
    go (Some z) h m = m

pub files_below : (k : CoreState) → IsStandingCore k → AreBelow k.next k.view.files
unfolding state_of store_of
files_below k i = i.jobs.below

-- what the job of a flush makes
pub flush_makes : (v : Snapshot) (z : List Cell) → entries_made (flush_of v z) ≡ minor_compaction (rules_of v.config).minor z
unfolding flush_of usage_cells
flush_makes v z = refl

-- the parts of that job: one cursor over the frozen part
pub flush_storable : (v : Snapshot) (config : Settings) (z list : List Cell) → IsStanding v → Some z ≡ v.frozen → config ≡ v.config → list ≡ sum_all (z ∷ []) → AreStorable (rules_of config) list
flush_storable v config z list h e c l =
    subst (λ d. AreStorable (rules_of d) list) (sym c) (subst (AreStorable (rules_of v.config)) (sym l) (frozen_storable v z e h))

pub flush_is : (v : Snapshot) (config : Settings) (z list : List Cell) (job : Compaction) → IsStanding v → Some z ≡ v.frozen → config ≡ v.config → list ≡ sum_all (z ∷ []) → job ≡ record { config = config; usage = Minc; input = list } → Some job ≡ option_map (flush_of v) v.frozen
unfolding flush_of
flush_is v config z list job h e c l j =
    ap Some (j ∙ (λ i. record { config = c i; usage = Minc; input = (l ∙ frozen_input v z e h ∙ ap (λ o. unwrap_or o []) (sym e)) i })) ∙ ap (option_map (λ x. record { config = v.config; usage = Minc; input = x })) e

pub job_flushes : (v : Snapshot) (done : Compaction) (o : Option (List Cell)) → Some done ≡ option_map (flush_of v) o → IfSome o (λ z. entries_made done ≡ minor_compaction (rules_of v.config).minor z)
job_flushes v done None h = tt
job_flushes v done (Some z) h = (let e : Some done ≡ Some (flush_of v z) = h in let d : done ≡ flush_of v z = cc in ap entries_made d ∙ flush_makes v z)
