-- Steps of a core in general: refused, without memory, and made.
use Rattle.std.proofs.Common.{◌≡◌, ℕ, ◌+◌, ◌≤◌, cond, List, [], length, Option, Some, None, is_some, unwrap_or, refl, sym, ap, ◌∙◌, subst, arith}
use Rattle.std.specs.List.{AllByRecursion}
use Rattle.tablet_model.specs.Limits.{max_files}
use Rattle.tablet_model.specs.Rules.{Rules}
use Rattle.tablet_model.specs.Stands.{Stands, StandsInJobs}
use Rattle.tablet_model.specs.Steps.{Event, StepAnswer, answer_to_step, log_after, refuse, step, step_answer, store_after}
use Rattle.stage_laws.proofs.Kept.{absurd_bool}
use Rattle.stage_laws.proofs.StandingSteps.{parts_same, refused_log, steps_stand}
use Rattle.iter_config.specs.RulesOf.{rules_of}
use Rattle.iter_config.specs.Settings.{Settings}
use Rattle.iter_config.proofs.Soundness.{sound}
use Rattle.tablet_view.specs.Extending.{Extends}
use Rattle.tablet_view.specs.Snapshot.{IsStanding, store_of}
use Rattle.tablet_view.proofs.Orders.{extends_refl}
use Rattle.tablet_core.specs.State.{Answers, CoreState, HasSome, IsStandingCore, IsStep, empty_core, state_of}
use Rattle.tablet_core.proofs.Fewness.{IsFew, few_stepped}

-- a number and the next one are not above the next one
pub same_version : (n : ℕ) → n ≤ n + 1
same_version n = omega arith

pub next_version : (n : ℕ) → n + 1 ≤ n + 1
next_version n = omega arith

-- why a step is refused in a core
abbrev pub reason : Event → CoreState → Option StepAnswer
reason e k = refuse (rules_of k.view.config) (state_of k) e

refused : (e : Event) (k : CoreState) (a : StepAnswer) → reason e k ≡ Some a → Answers e k k (Some a)
unfolding answer_to_step store_after
refused e k a h = (
  sym (ap (λ o. unwrap_or o (step_answer (rules_of k.view.config) (state_of k) e)) h),
  record {
    store = sym (ap (λ o. cond (is_some o) (state_of k) (step (rules_of k.view.config) (state_of k) e)) h);
    log = sym (refused_log (rules_of k.view.config) (state_of k) k.view.log e a h);
    config = refl;
    extends = extends_refl k.view;
    version_rises_by_one_at_most = same_version k.view.version;
    unchanged = λ _. refl;
  },
)

-- the answer that says why, none where no refusal stands
pub unmade : (e : Event) (k : CoreState) (o : Option StepAnswer) → o ≡ reason e k → Answers e k k o
unmade e k None h = (sym h, refl)
unmade e k (Some a) h = refused e k a (sym h)

-- a step that is made
pub record IsMade (e : Event) (k l : CoreState) (a : StepAnswer) : Type 0 where
  pub free : reason e k ≡ None
  pub answer : a ≡ step_answer (rules_of k.view.config) (state_of k) e
  pub store : state_of l ≡ step (rules_of k.view.config) (state_of k) e
  pub log : l.view.log ≡ log_after (rules_of k.view.config) (state_of k) k.view.log e
  pub extends : Extends l.view k.view
  pub version_rises_by_one_at_most : l.view.version ≤ k.view.version + 1

pub made : (e : Event) (k l : CoreState) (a : StepAnswer) → IsMade e k l a → Answers e k l (Some a)
unfolding answer_to_step store_after
made e k l a m = (
  m.answer ∙ sym (ap (λ o. unwrap_or o (step_answer (rules_of k.view.config) (state_of k) e)) m.free),
  record {
    store = m.store ∙ sym (ap (λ o. cond (is_some o) (state_of k) (step (rules_of k.view.config) (state_of k) e)) m.free);
    log = m.log;
    config = m.extends.config;
    extends = m.extends;
    version_rises_by_one_at_most = m.version_rises_by_one_at_most;
    unchanged = λ t. absurd (absurd_bool t (ap is_some m.free));
  },
)

-- the jobs stand behind each step
jobs_stand : (e : Event) (k l : CoreState) → IsStanding k.view → StandsInJobs (rules_of k.view.config) (state_of k) → IsStep e k l → StandsInJobs (rules_of l.view.config) (state_of l)
unfolding state_of store_of
jobs_stand e k l v t s =
    let c : Rules = rules_of k.view.config in
    let both : Stands c (state_of k) k.view.log = record { in_parts = parts_same c (store_of k.view 0 []) (state_of k) k.view.log refl refl refl refl v.parts; in_jobs = t } in
    let after : StandsInJobs c (store_after c (state_of k) e) = (steps_stand c (state_of k) k.view.log e (sound k.view.config v.config) both).in_jobs in
    subst (λ d. StandsInJobs (rules_of d) (state_of l)) (sym s.config) (subst (StandsInJobs c) (sym s.store) after)

-- so do the few files of the store
few_stand : (e : Event) (k l : CoreState) → IsStandingCore k → IsStep e k l → IsFew (state_of l)
unfolding state_of store_of
few_stand e k l i s = subst IsFew (sym s.store) (few_stepped (rules_of k.view.config) (state_of k) e i.jobs (record { files = i.few; jobs = i.filled }))

few_files : (l : CoreState) → IsFew (state_of l) → length l.view.files ≤ max_files
unfolding state_of store_of
few_files l few = few.files

filled_jobs : (l : CoreState) → IsFew (state_of l) → AllByRecursion HasSome l.jobs
unfolding state_of store_of
filled_jobs l few = few.jobs

-- and so does the core, where a new file is of a new snapshot
pub core_stands : (e : Event) (k l : CoreState) (a : StepAnswer) → IsStanding k.view → IsStandingCore k → IsMade e k l a → (k.next ≤ k.view.version + 1 → l.next ≤ l.view.version + 1) → IsStandingCore l
core_stands e k l a v i m n =
    let s = (made e k l a m).1 in
    let few = few_stand e k l i s in
    record { jobs = jobs_stand e k l v i.jobs s; next = n i.next; filled = filled_jobs l few; few = few_files l few }

pub empty_standing : (config : Settings) → IsStandingCore (empty_core config)
unfolding state_of store_of
empty_standing config = record { jobs = record { below = tt; files_there = tt; own_numbers = tt; files_apart = tt; others_newer = tt }; next = one 1; filled = tt; few = least 64 }
  where
    one : (n : ℕ) → n ≤ n
    one n = omega arith

    least : (n : ℕ) → 0 ≤ n
    least n = omega arith
