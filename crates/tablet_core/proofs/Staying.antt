-- What a job makes stays while it runs.
use Rattle.std.proofs.Common.{◌≡◌, ℕ, cond, List, Some, true, is_some, sym, ap, ◌∙◌}
use Rattle.tablet_model.specs.Cell.{Cell}
use Rattle.tablet_model.specs.Compactions.{full_compaction, partial_compaction}
use Rattle.tablet_model.specs.Rules.{Rules}
use Rattle.tablet_model.specs.Steps.{Event, find_job, made_by, store_after}
use Rattle.tablet_model.specs.Store.{RunningJob, Store, input_of}
use Rattle.stage_laws.proofs.JobsStay.{frozen_stays, inputs_stay}
use Rattle.iter_config.specs.RulesOf.{rules_of}
use Rattle.tablet_view.specs.Snapshot.{store_of}
use Rattle.tablet_core.specs.State.{CoreState, IsStandingCore, IsStep, state_of}

made_same : (c : Rules) (s r : Store) (t : RunningJob) → input_of t.ids s.files ≡ input_of t.ids r.files → made_by c s t ≡ made_by c r t
unfolding made_by
made_same c s r t h = ap (λ l. cond t.full (full_compaction c.major l) (partial_compaction c.major l)) h

pub jobs_stay : (e : Event) (k l : CoreState) (j : ℕ) (t : RunningJob) → IsStandingCore k → IsStep e k l → find_job j k.jobs ≡ Some t → find_job j l.jobs ≡ Some t → made_by (rules_of l.view.config) (state_of l) t ≡ made_by (rules_of k.view.config) (state_of k) t
unfolding state_of store_of
jobs_stay e k l j t i s f g =
    (λ n. made_by (rules_of (s.config n)) (s.store n) t)
    ∙ made_same (rules_of k.view.config) (store_after (rules_of k.view.config) (state_of k) e) (state_of k) t (inputs_stay (rules_of k.view.config) (state_of k) e j t i.jobs f (ap (λ x. find_job j x.jobs) (sym s.store) ∙ g))

pub frozen_stays_so : (e : Event) (k l : CoreState) (frozen : List Cell) → IsStep e k l → k.view.frozen ≡ Some frozen → is_some l.view.frozen ≡ true → l.view.frozen ≡ Some frozen
unfolding state_of store_of
frozen_stays_so e k l frozen s f g = ap (λ x. x.frozen) s.store ∙ frozen_stays (rules_of k.view.config) (state_of k) e frozen f (ap (λ x. is_some x.frozen) (sym s.store) ∙ g)
