-- A store stands for its history, step by step, and so answers as its history does.
use Rattle.std.proofs.Common.{◌≡◌, pos, ℕ, ◌+◌, Bool, true, false, cond, List, [], ◌∷◌, ◌++◌, length, Option, Some, None, is_some, option_map, unwrap_or, refl, sym, ap, ◌∙◌, subst, arith}
use Rattle.std.specs.Option.{option_or}
use Rattle.std.specs.List.{AllByRecursion}
use Rattle.tablet_model.specs.Answers.{answer, scan_of}
use Rattle.tablet_model.specs.Cell.{Cell}
use Rattle.tablet_model.specs.Compactions.{minor_compaction}
use Rattle.tablet_model.specs.Cuts.{Span, within}
use Rattle.tablet_model.specs.Families.{in_families, is_in}
use Rattle.tablet_model.specs.History.{RowChange, entries_of, history_entries}
use Rattle.tablet_model.specs.Ingest.{Refusal, ingest}
use Rattle.tablet_model.specs.Markers.{live}
use Rattle.tablet_model.specs.Order.{above}
use Rattle.tablet_model.specs.Rules.{AreSound, AreStorable, Rules, scan_stack}
use Rattle.tablet_model.specs.Sorted.{Ascends, sorted}
use Rattle.tablet_model.specs.Stages.{stages}
use Rattle.tablet_model.specs.Stands.{AreAllNewer, AreApartJobs, AreBelow, AreRising, AreThere, AreWithin, HaveOwnNumbers, Stands, StandsInJobs, StandsInParts}
use Rattle.tablet_model.specs.Steps.{Event, StepAnswer, apply, compact, compact_all, find_job, finish, first_missing, first_taken, flush, freeze, frozen_there, ids_of, is_empty, job_exists, log_after, no_files, nothing_in_memory, refuse, refuse_start, refused, step, store_after, takes_all, with_job, without_job}
use Rattle.tablet_model.specs.Store.{RunningJob, Store, all_of, cells_of, empty_store, frozen_of, files_with, parts_of, files_without}
use Rattle.tablet_model.specs.Sum.{sum_of}
use Rattle.tablet_model.proofs.Ingests.{none_cond, none_first, none_map, none_second}
use Rattle.tablet_model.proofs.Orders.{above_exact}
use Rattle.tablet_model.proofs.Sums.{Ascends-sorted}
use Rattle.stage_laws.proofs.FileLists.{takes_own}
use Rattle.stage_laws.proofs.Jobs.{MayStart, jobs_finished, jobs_flushed, jobs_started, no_job, none_apart, none_missing}
use Rattle.stage_laws.proofs.Parts.{accepted_keys}
use Rattle.stage_laws.proofs.Restrictions.{columns_of_puts, stages_commute}
use Rattle.stage_laws.proofs.Standing.{flushed_newer, le_refl, stands_applied, stands_flushed, stands_frozen}
use Rattle.stage_laws.proofs.StandingJobs.{stands_finished}
use Rattle.stage_laws.proofs.Whole.{families_columns, full}

-- the parts alone matter
pub parts_same : (c : Rules) (s t : Store) (h : List RowChange) → s.count ≡ t.count → s.files ≡ t.files → s.frozen ≡ t.frozen → s.memory ≡ t.memory → StandsInParts c s h → StandsInParts c t h
unfolding all_of parts_of frozen_of
parts_same c s t h n f z m k =
    let e : cells_of s.files ++ (unwrap_or s.frozen [] ++ s.memory) ≡ cells_of t.files ++ (unwrap_or t.frozen [] ++ t.memory) = λ i. cells_of (f i) ++ (unwrap_or (z i) [] ++ m i) in
    record {
      count_is = sym n ∙ k.count_is;
      history = k.history;
      same = ap (λ l. stages c.base (live (sorted above l))) (sym e) ∙ k.same;
      times = record {
        settled = k.times.settled;
        closed = k.times.closed;
        order = k.times.order;
        bound = k.times.bound;
        in_files = subst (λ fs. AreWithin c.plain 0 k.times.settled (cells_of fs)) f k.times.in_files;
        in_frozen = subst (λ o. AreWithin c.plain k.times.settled k.times.closed (unwrap_or o [])) z k.times.in_frozen;
        in_memory = subst (AreWithin c.plain k.times.closed (length h)) m k.times.in_memory;
      };
      entries = subst (AreStorable c) e k.entries;
      frozen_sorted = subst (λ o. Ascends above (unwrap_or o [])) z k.frozen_sorted;
      memory_sorted = subst (Ascends above) m k.memory_sorted;
      rising = subst AreRising f k.rising;
    }

-- each step
freeze_free : (s : Store) → cond (is_some s.frozen) (Some frozen_there) (cond (is_empty s.memory) (Some nothing_in_memory) None) ≡ None → s.frozen ≡ None
freeze_free s h = go s.frozen (none_cond (is_some s.frozen) frozen_there (cond (is_empty s.memory) (Some nothing_in_memory) None) h).0
  where
    go : (o : Option (List Cell)) → is_some o ≡ false → o ≡ None
    go None k = refl
    go (Some l) k = absurd (grind arith)

may_start : (s : Store) (j : ℕ) (ids : List ℕ) → refuse_start s j ids ≡ None → MayStart s j ids
unfolding refuse_start
may_start s j ids h =
    let a = none_cond (is_some (find_job j s.jobs)) (job_exists j) (cond (is_empty ids) (Some no_files) (option_or (first_missing (ids_of s.files) ids) (first_taken s.jobs ids))) h in
    let b = none_cond (is_empty ids) no_files (option_or (first_missing (ids_of s.files) ids) (first_taken s.jobs ids)) a.1 in
    record {
      new_number = no_job j s.jobs a.0;
      there = none_missing (ids_of s.files) ids (none_first (first_missing (ids_of s.files) ids) (first_taken s.jobs ids) b.1);
      apart = none_apart s.jobs ids (none_second (first_missing (ids_of s.files) ids) (first_taken s.jobs ids) b.1);
    }

pub with_job_parts : (c : Rules) (s : Store) (h : List RowChange) (j : ℕ) (full : Bool) (ids : List ℕ) → StandsInParts c s h → StandsInParts c (with_job s j full ids) h
unfolding with_job parts_of all_of frozen_of
with_job_parts c s h j full ids k = record {
  count_is = k.count_is;
  history = k.history;
  same = k.same;
  times = record { settled = k.times.settled; closed = k.times.closed; order = k.times.order; bound = k.times.bound; in_files = k.times.in_files; in_frozen = k.times.in_frozen; in_memory = k.times.in_memory };
  entries = k.entries;
  frozen_sorted = k.frozen_sorted;
  memory_sorted = k.memory_sorted;
  rising = k.rising;
}

stands_started : (c : Rules) (s : Store) (h : List RowChange) (j : ℕ) (full : Bool) (ids : List ℕ) → refuse_start s j ids ≡ None → (full ≡ true → takes_all ids s.files ≡ true) → Stands c s h → Stands c (with_job s j full ids) h
stands_started c s h j full ids ok all k = record { in_parts = with_job_parts c s h j full ids k.in_parts; in_jobs = jobs_started c s j full ids (may_start s j ids ok) all k.in_jobs }

jobs_same : (c : Rules) (s t : Store) → s.files ≡ t.files → s.next ≡ t.next → s.jobs ≡ t.jobs → StandsInJobs c s → StandsInJobs c t
jobs_same c s t f n g h = record {
  below = subst (λ fs. AreBelow t.next fs) f (subst (λ n. AreBelow n s.files) n h.below);
  files_there = subst (λ fs. AllByRecursion (λ t. AreThere fs t.ids) t.jobs) f (subst (AllByRecursion (λ t. AreThere s.files t.ids)) g h.files_there);
  own_numbers = subst HaveOwnNumbers g h.own_numbers;
  files_apart = subst AreApartJobs g h.files_apart;
  others_newer = subst (λ fs. AllByRecursion (λ t. t.full ≡ true → AreAllNewer c.plain (cells_of (files_without t.ids fs)) (cells_of (files_with t.ids fs))) t.jobs) f (subst (AllByRecursion (λ t. t.full ≡ true → AreAllNewer c.plain (cells_of (files_without t.ids s.files)) (cells_of (files_with t.ids s.files)))) g h.others_newer);
}

stands_step : (c : Rules) (s : Store) (h : List RowChange) (e : Event) → AreSound c → refuse c s e ≡ None → Stands c s h → Stands c (step c s e) (log_after c s h e)
unfolding refuse step log_after
stands_step c s h (apply m) law ok k =
    let free : ingest c s.count m ≡ None = none_map refused (ingest c s.count m) ok in
    subst (Stands c (record s { count = s.count + 1; memory = sum_of s.memory (entries_of (pos (s.count + 1)) m) })) (sym (ap (λ o. cond (is_some o) h (h ++ m ∷ [])) free))
    (record { in_parts = stands_applied c s h m law free k.in_parts; in_jobs = jobs_same c s (record s { count = s.count + 1; memory = sum_of s.memory (entries_of (pos (s.count + 1)) m) }) refl refl refl k.in_jobs })
stands_step c s h freeze law ok k = record { in_parts = stands_frozen c s h (freeze_free s ok) k.in_parts; in_jobs = jobs_same c s (record s { frozen = Some s.memory; memory = [] }) refl refl refl k.in_jobs }
stands_step c s h flush law ok k = record {
  in_parts = stands_flushed c s h law k.in_jobs.below k.in_parts;
  in_jobs = jobs_flushed c s (minor_compaction c.minor (frozen_of s)) k.in_jobs.below (flushed_newer c s h law k.in_parts) k.in_jobs;
}
stands_step c s h (compact j ids) law ok k = stands_started c s h j (takes_all ids s.files) ids ok (λ e. e) k
stands_step c s h (compact_all j) law ok k = stands_started c s h j true (ids_of s.files) ok (λ _. takes_own s.files) k
stands_step c s h (finish j) law ok k = go (find_job j s.jobs) refl
  where
    go : (o : Option RunningJob) → find_job j s.jobs ≡ o → Stands c (elim o [ None ↦ s | Some t ↦ without_job c s t ]) h
    go None e = k
    go (Some t) e = record { in_parts = stands_finished c s h j t law e k.in_parts k.in_jobs; in_jobs = jobs_finished c law s j t e k.in_jobs.below k.in_jobs }

pub refused_log : (c : Rules) (s : Store) (h : List RowChange) (e : Event) (a : StepAnswer) → refuse c s e ≡ Some a → log_after c s h e ≡ h
unfolding refuse log_after
refused_log c s h (apply m) a r = go (ingest c s.count m) r
  where
    none_some : {X : Type 0} (x : X) → None ≡ Some x → ⊥
    none_some x h = cc

    go : (o : Option Refusal) → option_map refused o ≡ Some a → cond (is_some o) h (h ++ m ∷ []) ≡ h
    go None r = absurd (none_some a r)
    go (Some q) r = refl
refused_log c s h freeze a r = refl
refused_log c s h flush a r = refl
refused_log c s h (compact j ids) a r = refl
refused_log c s h (compact_all j) a r = refl
refused_log c s h (finish j) a r = refl

pub steps_stand : (c : Rules) (s : Store) (h : List RowChange) (e : Event) → AreSound c → Stands c s h → Stands c (store_after c s e) (log_after c s h e)
unfolding store_after
steps_stand c s h e law k = go (refuse c s e) refl
  where
    go : (o : Option StepAnswer) → refuse c s e ≡ o → Stands c (cond (is_some o) s (step c s e)) (log_after c s h e)
    go None r = stands_step c s h e law r k
    go (Some a) r = subst (Stands c s) (sym (refused_log c s h e a r)) k

pub empty_stands : (c : Rules) → AreSound c → Stands c empty_store []
unfolding empty_store parts_of all_of frozen_of cells_of history_entries sorted
empty_stands c law = record {
  in_parts = record {
    count_is = refl;
    history = tt;
    same = refl;
    times = record { settled = 0; closed = 0; order = le_refl 0; bound = le_refl 0; in_files = tt; in_frozen = tt; in_memory = tt };
    entries = tt;
    frozen_sorted = Ascends-sorted above above_exact [];
    memory_sorted = Ascends-sorted above above_exact [];
    rising = tt;
  };
  in_jobs = record { below = tt; files_there = tt; own_numbers = tt; files_apart = tt; others_newer = tt };
}

-- families, before or after
pub stores_answer : (c : Rules) (s : Store) (h : List RowChange) (range : Span) (families : Option (List (List ℕ))) → AreSound c → Stands c s h → scan_of (scan_stack c) range families (all_of s) ≡ answer (scan_stack c) range families h
unfolding scan_of answer
stores_answer c s h range families law k = ap (λ l. within range (c.scan_rest l)) (chosen (all_of s) ∙ ap (in_families families) k.in_parts.same ∙ sym (chosen (history_entries h)))
  where
    chosen : (list : List Cell) → stages c.base (in_families families (live list)) ≡ in_families families (stages c.base (live list))
    chosen list = sym (stages_commute (is_in families) (columns_of_puts (is_in families) (families_columns families)) c.base (accepted_keys c.base law.accepted) (live list))

pub steps_are_unseen : (c : Rules) (s : Store) (h : List RowChange) (e : Event) (range : Span) (families : Option (List (List ℕ))) → AreSound c → Stands c s h → log_after c s h e ≡ h → scan_of (scan_stack c) range families (all_of (store_after c s e)) ≡ scan_of (scan_stack c) range families (all_of s)
steps_are_unseen c s h e range families law k same =
    stores_answer c (store_after c s e) (log_after c s h e) range families law (steps_stand c s h e law k)
    ∙ ap (answer (scan_stack c) range families) same
    ∙ sym (stores_answer c s h range families law k)
