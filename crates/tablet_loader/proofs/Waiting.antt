-- Jobs that wait stay as they are while mutations come in, and what they made fits then.
use Rattle.std.proofs.Common.{◌≡◌, ℕ, Bool, true, false, cond, List, [], ◌∷◌, Option, Some, None, is_some, option_map, refl, sym, ap, subst, ◌∙◌}
use Rattle.std.specs.Prelude.{IfSome, OnOk, Result, Ok, Err}
use Rattle.tablet_model.specs.Cell.{Cell}
use Rattle.tablet_model.specs.Compactions.{minor_compaction}
use Rattle.tablet_model.specs.History.{RowChange}
use Rattle.tablet_model.specs.Rules.{Rules}
use Rattle.tablet_model.specs.Steps.{apply, find_job, flush, made_by, refuse, step, store_after}
use Rattle.tablet_model.specs.Store.{RunningJob, Store}
use Rattle.iter_config.specs.RulesOf.{rules_of}
use Rattle.compactor.specs.Compacted.{Compaction, entries_made}
use Rattle.tablet_view.specs.Extending.{Extends}
use Rattle.tablet_view.specs.Snapshot.{Snapshot, store_of}
use Rattle.tablet_core.specs.Jobs.{flush_of, major_of}
use Rattle.tablet_core.specs.State.{CoreState, IsStandingCore, IsStep, state_of}
use Rattle.tablet_core.proofs.Finishes.{major_makes}
use Rattle.tablet_core.proofs.Flushes.{flush_makes}
use Rattle.tablet_core.proofs.Staying.{jobs_stay}
use Rattle.tablet_loader.specs.Loads.{Load, after_changes, after_step}
use Rattle.tablet_loader.specs.States.{load_of}
use Rattle.tablet_loader.specs.Waiting.{IsMadeBy, major_in, waiting_flush, waiting_major}
use Rattle.tablet_loader.specs.declared.loader.Loader.{Loader}

-- ---- mutations come in

record HasSameParts (s r : Store) : Type 0 where
  files : s.files ≡ r.files
  frozen : s.frozen ≡ r.frozen
  jobs : s.jobs ≡ r.jobs

one_kept : (c : Rules) (s : Store) (m : RowChange) → HasSameParts (store_after c s (apply m)) s
unfolding store_after step
one_kept c s m = go (is_some (refuse c s (apply m)))
  where
    go : (b : Bool) → HasSameParts (cond b s (step c s (apply m))) s
    go true = record { files = refl; frozen = refl; jobs = refl }
    go false = record { files = refl; frozen = refl; jobs = refl }

all_kept : (c : Rules) (l : Load) (ms : List RowChange) → HasSameParts (after_changes c l ms).store l.store
all_kept c l [] = record { files = refl; frozen = refl; jobs = refl }
all_kept c l (m ∷ ms) =
    let later = all_kept c (after_step c l (apply m)) ms in
    let first = one_kept c l.store m in
    record { files = later.files ∙ first.files; frozen = later.frozen ∙ first.frozen; jobs = later.jobs ∙ first.jobs }

same_job : (c : Rules) (l : Load) (ms : List RowChange) → (after_changes c l ms).job ≡ l.job
same_job c l [] = refl
same_job c l (m ∷ ms) = same_job c (after_step c l (apply m)) ms

flush_waits : (new old : Loader) (c : Rules) (ms : List RowChange) → load_of new ≡ after_changes c (load_of old) ms → Extends new.core.view old.core.view
    → waiting_flush new ≡ waiting_flush old
unfolding state_of store_of flush_of
flush_waits new old c ms load e =
    let kept = all_kept c (load_of old) ms in
    let frozen : new.core.view.frozen ≡ old.core.view.frozen = ap (λ l. l.store.frozen) load ∙ kept.frozen in
    λ i. option_map (flush_of (record old.core.view { config = e.config i })) (frozen i)

major_waits : (new old : Loader) (c : Rules) (ms : List RowChange) → load_of new ≡ after_changes c (load_of old) ms → Extends new.core.view old.core.view
    → waiting_major new ≡ waiting_major old
unfolding state_of store_of major_of
major_waits new old c ms load e =
    let kept = all_kept c (load_of old) ms in
    let files : new.core.view.files ≡ old.core.view.files = ap (λ l. l.store.files) load ∙ kept.files in
    let jobs : new.core.jobs ≡ old.core.jobs = ap (λ l. l.store.jobs) load ∙ kept.jobs in
    let job : new.job ≡ old.job = ap (λ l. l.job) load ∙ same_job c (load_of old) ms in
    λ i. option_map (major_of (record old.core.view { config = e.config i; files = files i })) (find_job (job i) (jobs i))

-- and so where they came in
pub flush_kept : {A E : Type 0} (r : Result A E) (new old : Loader) (c : Rules) (ms : List RowChange) → OnOk r (load_of new ≡ after_changes c (load_of old) ms) → OnOk r (Extends new.core.view old.core.view)
    → OnOk r (waiting_flush new ≡ waiting_flush old)
flush_kept (Ok x) new old c ms load e = flush_waits new old c ms load e
flush_kept (Err x) new old c ms load e = tt

pub major_kept : {A E : Type 0} (r : Result A E) (new old : Loader) (c : Rules) (ms : List RowChange) → OnOk r (load_of new ≡ after_changes c (load_of old) ms) → OnOk r (Extends new.core.view old.core.view)
    → OnOk r (waiting_major new ≡ waiting_major old)
major_kept (Ok x) new old c ms load e = major_waits new old c ms load e
major_kept (Err x) new old c ms load e = tt

-- ---- what was made is put in place

pub fitting_flush : (v : Snapshot) (frozen : Option (List Cell)) (made : Compaction) → Some made ≡ option_map (flush_of v) frozen
    → IfSome frozen (λ z. entries_made made ≡ minor_compaction (rules_of v.config).minor z)
fitting_flush v None made h = tt
fitting_flush v (Some z) made h = ap entries_made (let e : Some made ≡ Some (flush_of v z) = h in cc) ∙ flush_makes v z

pub fitting_major : (k : CoreState) (j : ℕ) (made : Compaction) → IsMadeBy k j (Some made)
    → IfSome (find_job j k.jobs) (λ t. entries_made made ≡ made_by (rules_of k.view.config) (state_of k) t)
fitting_major k j made h = subst (λ o. IfSome o (λ t. entries_made made ≡ made_by (rules_of k.view.config) (state_of k) t)) (sym h.1) h.2

jobs_stay_over_flush : (c : Rules) (r : Store) → (store_after c r flush).jobs ≡ r.jobs
unfolding store_after step
jobs_stay_over_flush c r = kept (is_some (refuse c r flush))
  where
    kept : (b : Bool) → (cond b r (step c r flush)).jobs ≡ r.jobs
    kept true = refl
    kept false = refl

-- the job of a number is made in time where a flush came between
pub major_in_time : (j : ℕ) (k l : CoreState) (made : Option Compaction) → IsStandingCore k → IsStep flush k l → made ≡ major_in k j → IsMadeBy l j made
unfolding state_of store_of
major_in_time j k l made i s h = go (find_job j k.jobs) refl h
  where
    jobs : l.jobs ≡ k.jobs
    jobs = ap (λ r. r.jobs) s.store ∙ jobs_stay_over_flush (rules_of k.view.config) (state_of k)

    go : (o : Option RunningJob) → find_job j k.jobs ≡ o → made ≡ option_map (major_of k.view) o → IsMadeBy l j made
    go None f h = subst (IsMadeBy l j) (sym h) (ap (find_job j) jobs ∙ f)
    go (Some t) f h =
        let there : find_job j l.jobs ≡ Some t = ap (find_job j) jobs ∙ f in
        subst (IsMadeBy l j) (sym h) (t, there, major_makes k t ∙ sym (jobs_stay flush k l j t i s f there))
