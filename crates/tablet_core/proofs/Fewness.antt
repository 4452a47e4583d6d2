-- A store has few files, and each of its jobs has some, whatever steps it takes.
use Rattle.std.proofs.Common.{◌≡◌, ℕ, ◌+◌, ◌≤◌, Bool, true, false, cond, not, ◌||◌, List, [], ◌∷◌, ◌++◌, length, length-append, nat_lt, eqb, Option, Some, None, is_some, refl, sym, ap, ◌∙◌, arith}
use Rattle.std.specs.List.{AllByRecursion, list_any}
use Rattle.std.proofs.lemmas.Bool.{eqb-true, eq-eqb}
use Rattle.std.proofs.lemmas.List.Filters.{length-filter_both}
use Rattle.tablet_model.specs.Limits.{max_files}
use Rattle.tablet_model.specs.Rules.{Rules}
use Rattle.tablet_model.specs.Stands.{AreThere, StandsInJobs}
use Rattle.tablet_model.specs.Steps.{Event, apply, freeze, flush, compact, compact_all, finish, StepAnswer, find_job, ids_of, is_empty, job_exists, no_files, nothing_frozen, too_many_files, refuse, refuse_start, step, store_after, with_job, without_job}
use Rattle.tablet_model.specs.Store.{File, RunningJob, Store, has_id, files_with, files_without}
use Rattle.tablet_model.proofs.Ingests.{none_cond}
use Rattle.tablet_model.proofs.Merges.{all_append}
use Rattle.tablet_model.proofs.Sums.{all_filter}
use Rattle.stage_laws.proofs.Jobs.{found_job}
use Rattle.tablet_core.specs.State.{HasSome}

-- a store has few files, and each of its jobs has some
pub record IsFew (s : Store) : Type 0 where
  pub files : length s.files ≤ max_files
  pub jobs : AllByRecursion HasSome s.jobs

-- where a file has one of some numbers, one is named
named_some : (ids : List ℕ) (i : ℕ) → has_id ids i ≡ true → (files : List File) → has_id (ids_of files) i ≡ true → 1 ≤ length (files_with ids files)
unfolding has_id files_with ids_of
named_some ids i among [] there = absurd (grind arith)
named_some ids i among (f ∷ fs) there = go (eqb i f.id) refl there (list_any (eqb f.id) ids) refl (named_some ids i among fs)
  where
    go : (b : Bool) → eqb i f.id ≡ b → (b || list_any (eqb i) (ids_of fs)) ≡ true → (d : Bool) → list_any (eqb f.id) ids ≡ d → (has_id (ids_of fs) i ≡ true → 1 ≤ length (files_with ids fs))
        → 1 ≤ length (cond d (f ∷ files_with ids fs) (files_with ids fs))
    go b e t true h later = grind arith
    go false e t false h later = later t
    go true e t false h later = absurd (let no : true ≡ false = sym among ∙ ap (λ x. list_any (eqb x) ids) (eqb-true i f.id e) ∙ h in cc)

-- so one file more stands where those of some numbers are gone
fewer : (ids : List ℕ) (files : List File) → is_empty ids ≡ false → AreThere files ids → length (files_without ids files) + 1 ≤ length files
unfolding has_id is_empty files_with files_without
fewer [] files some there = absurd (grind arith)
fewer (i ∷ is) files some there =
    let named_one = named_some (i ∷ is) i (first (eqb i i) (list_any (eqb i) is) (eq-eqb i i refl)) files there.0 in
    let both = length-filter_both (λ (f : File). list_any (eqb f.id) (i ∷ is)) (λ f. not (list_any (eqb f.id) (i ∷ is))) (λ f. refl) files in
    omega (arith, named_one, both)
  where
    first : (a b : Bool) → a ≡ true → (a || b) ≡ true
    first a b h = grind arith

one_more : (files : List File) (f : File) (n : ℕ) → length files + 1 ≤ n → length (files ++ f ∷ []) ≤ n
one_more files f n h = let e = length-append files (f ∷ []) in omega (arith, h, e)

few_start : (s : Store) (j : ℕ) (full : Bool) (ids : List ℕ) → refuse_start s j ids ≡ None → AllByRecursion HasSome s.jobs → AllByRecursion HasSome (s.jobs ++ record { job = j; full = full; ids = ids } ∷ [])
unfolding refuse_start
few_start s j full ids free all = all_append HasSome s.jobs (record { job = j; full = full; ids = ids } ∷ []) all ((none_cond (is_empty ids) no_files _ (none_cond (is_some (find_job j s.jobs)) (job_exists j) _ free).1).0, tt)

room : (frozen : Bool) (files : ℕ) → cond (not frozen) (Some nothing_frozen) (cond (nat_lt files max_files) None (Some too_many_files)) ≡ None → files + 1 ≤ max_files
room false files h = absurd (let k : Some nothing_frozen ≡ None = h in cc)
room true files h = go (nat_lt files max_files) refl h
  where
    go : (b : Bool) → nat_lt files max_files ≡ b → cond b None (Some too_many_files) ≡ None → files + 1 ≤ max_files
    go true e k = grind arith
    go false e k = absurd (let k : Some too_many_files ≡ None = k in cc)

few_step : (c : Rules) (s : Store) (e : Event) → refuse c s e ≡ None → StandsInJobs c s → IsFew s → IsFew (step c s e)
unfolding refuse step without_job with_job
few_step c s (apply m) free i few = record { files = few.files; jobs = few.jobs }
few_step c s freeze free i few = record { files = few.files; jobs = few.jobs }
few_step c s flush free i few = record { files = one_more s.files _ max_files (room (is_some s.frozen) (length s.files) free); jobs = few.jobs }
few_step c s (compact j ids) free i few = record { files = few.files; jobs = few_start s j _ ids free few.jobs }
few_step c s (compact_all j) free i few = record { files = few.files; jobs = few_start s j true (ids_of s.files) free few.jobs }
few_step c s (finish j) free i few = go (find_job j s.jobs) refl
  where
    one_for_some : (t : RunningJob) → HasSome t → AreThere s.files t.ids → length (files_without t.ids s.files) + 1 ≤ max_files
    one_for_some t some there = let less = fewer t.ids s.files some there in let few_files = few.files in omega (arith, less, few_files)

    go : (o : Option RunningJob) → find_job j s.jobs ≡ o → IsFew (elim o as (λ _. Store) [ None ↦ s | Some t ↦ without_job c s t ])
    go None f = few
    go (Some t) f = record {
      files = one_more (files_without t.ids s.files) _ max_files (one_for_some t (found_job HasSome j s.jobs t f few.jobs) (found_job (λ t. AreThere s.files t.ids) j s.jobs t f i.files_there));
      jobs = all_filter HasSome (λ u. not (eqb t.job u.job)) s.jobs few.jobs;
    }

-- whether it is refused or made
pub few_stepped : (c : Rules) (s : Store) (e : Event) → StandsInJobs c s → IsFew s → IsFew (store_after c s e)
unfolding store_after
few_stepped c s e i few = go (refuse c s e) refl
  where
    go : (o : Option StepAnswer) → refuse c s e ≡ o → IsFew (cond (is_some o) s (step c s e))
    go None h = few_step c s e h i few
    go (Some a) h = few
