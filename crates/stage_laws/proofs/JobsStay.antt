-- What stays while a job runs.
use Rattle.std.proofs.Common.{◌≡◌, not, ℕ, Bool, true, false, cond, List, [], ◌∷◌, ◌++◌, eqb, Option, Some, None, is_some, refl, ap, ◌∙◌}
use Rattle.std.specs.List.{AllByRecursion, filter}
use Rattle.tablet_model.specs.Cell.{Cell}
use Rattle.tablet_model.specs.Compactions.{minor_compaction}
use Rattle.tablet_model.specs.Order.{above}
use Rattle.tablet_model.specs.Rules.{Rules}
use Rattle.tablet_model.specs.Sorted.{sorted}
use Rattle.tablet_model.specs.Stands.{AreApartIds, AreThere, StandsInJobs}
use Rattle.tablet_model.specs.Steps.{Event, apply, compact, compact_all, find_job, finish, flush, freeze, frozen_there, is_empty, made_by, nothing_in_memory, refuse, step, store_after, with_job, without_job}
use Rattle.tablet_model.specs.Store.{File, RunningJob, Store, cells_of, frozen_of, has_id, input_of, files_with, files_without}
use Rattle.tablet_model.proofs.Bools.{false-of-not}
use Rattle.stage_laws.proofs.FileLists.{named_next, not_next, not_true, outside_others}
use Rattle.stage_laws.proofs.Jobs.{apart_sym, found_job}
use Rattle.stage_laws.proofs.Kept.{absurd_bool}

filter_within_files : (test p : File → Bool) → ((x : File) → test x ≡ true → p x ≡ true) → (xs : List File) → filter test (filter p xs) ≡ filter test xs
filter_within_files test p h [] = refl
filter_within_files test p h (x ∷ xs) = go (p x) refl (test x) refl (filter_within_files test p h xs)
  where
    go : (a : Bool) → p x ≡ a → (b : Bool) → test x ≡ b → filter test (filter p xs) ≡ filter test xs → filter test (cond a (x ∷ filter p xs) (filter p xs)) ≡ cond b (x ∷ filter test xs) (filter test xs)
    go true e true f ih = ap (λ b. cond b (x ∷ filter test (filter p xs)) (filter test (filter p xs))) f ∙ ap (λ l. x ∷ l) ih
    go true e false f ih = ap (λ b. cond b (x ∷ filter test (filter p xs)) (filter test (filter p xs))) f ∙ ih
    go false e true f ih = absurd (absurd_bool (h x f) e)
    go false e false f ih = ih

-- what another job takes away is not among them
named_unnamed : (ids others : List ℕ) (files : List File) → AreApartIds ids others → files_with ids (files_without others files) ≡ files_with ids files
unfolding files_with files_without
named_unnamed ids others files a = filter_within_files (λ f. has_id ids f.id) (λ f. not (has_id others f.id)) (λ f h. not_true (has_id others f.id) (outside_others f others ids a h)) files

pub all_true : {X : Type 0} (p : X → Bool) (xs : List X) → AllByRecursion (λ x. p x ≡ true) (filter p xs)
all_true p [] = tt
all_true p (x ∷ xs) = go (p x) refl (all_true p xs)
  where
    go : (b : Bool) → p x ≡ b → AllByRecursion (λ x. p x ≡ true) (filter p xs) → AllByRecursion (λ x. p x ≡ true) (cond b (x ∷ filter p xs) (filter p xs))
    go true e k = (e, k)
    go false e k = k

-- a flush ends
named_flushed : (c : Rules) (s : Store) (j : ℕ) (t : RunningJob) (cells : List Cell) → StandsInJobs c s → find_job j s.jobs ≡ Some t → files_with t.ids (s.files ++ record { id = s.next; cells = cells } ∷ []) ≡ files_with t.ids s.files
named_flushed c s j t cells h f = named_next t.ids s.files (record { id = s.next; cells = cells }) (not_next s.next s.files t.ids h.below (found_job (λ t. AreThere s.files t.ids) j s.jobs t f h.files_there))

-- another job ends
named_finished : (c : Rules) (s : Store) (i j : ℕ) (u t : RunningJob) → StandsInJobs c s → find_job i s.jobs ≡ Some u → find_job j s.jobs ≡ Some t → find_job j (filter (λ v. not (eqb u.job v.job)) s.jobs) ≡ Some t → files_with t.ids (files_without u.ids s.files ++ record { id = s.next; cells = made_by c s u } ∷ []) ≡ files_with t.ids s.files
named_finished c s i j u t h fu ft left =
    let other : eqb u.job t.job ≡ false = false-of-not (eqb u.job t.job) (found_job (λ v. not (eqb u.job v.job) ≡ true) j (filter (λ v. not (eqb u.job v.job)) s.jobs) t left (all_true (λ v. not (eqb u.job v.job)) s.jobs)) in
    let apart : AreApartIds u.ids t.ids = found_job (λ v. eqb u.job v.job ≡ false → AreApartIds u.ids v.ids) j s.jobs t ft (found_job (λ u. AllByRecursion (λ v. eqb u.job v.job ≡ false → AreApartIds u.ids v.ids) s.jobs) i s.jobs u fu h.files_apart) other in
    named_next t.ids (files_without u.ids s.files) (record { id = s.next; cells = made_by c s u }) (not_next s.next s.files t.ids h.below (found_job (λ t. AreThere s.files t.ids) j s.jobs t ft h.files_there))
    ∙ named_unnamed t.ids u.ids s.files (apart_sym u.ids t.ids apart)

named_step : (c : Rules) (s : Store) (e : Event) (j : ℕ) (t : RunningJob) → StandsInJobs c s → find_job j s.jobs ≡ Some t → find_job j (step c s e).jobs ≡ Some t → files_with t.ids (step c s e).files ≡ files_with t.ids s.files
unfolding step with_job without_job
named_step c s (apply m) j t h f g = refl
named_step c s freeze j t h f g = refl
named_step c s flush j t h f g = named_flushed c s j t (minor_compaction c.minor (frozen_of s)) h f
named_step c s (compact i ids) j t h f g = refl
named_step c s (compact_all i) j t h f g = refl
named_step c s (finish i) j t h f g = go (find_job i s.jobs) refl g
  where
    go : (o : Option RunningJob) → find_job i s.jobs ≡ o → find_job j (elim o as (λ _. Store) [ None ↦ s | Some u ↦ without_job c s u ]).jobs ≡ Some t → files_with t.ids (elim o as (λ _. Store) [ None ↦ s | Some u ↦ without_job c s u ]).files ≡ files_with t.ids s.files
    go None e k = refl
    go (Some u) e k = named_finished c s i j u t h e f k

pub inputs_stay : (c : Rules) (s : Store) (e : Event) (j : ℕ) (t : RunningJob) → StandsInJobs c s → find_job j s.jobs ≡ Some t → find_job j (store_after c s e).jobs ≡ Some t → input_of t.ids (store_after c s e).files ≡ input_of t.ids s.files
unfolding store_after input_of
inputs_stay c s e j t h f g = go (is_some (refuse c s e)) g
  where
    go : (b : Bool) → find_job j (cond b s (step c s e)).jobs ≡ Some t → input_of t.ids (cond b s (step c s e)).files ≡ input_of t.ids s.files
    go true k = refl
    go false k = ap (λ l. sorted above (cells_of l)) (named_step c s e j t h f k)

-- nothing but a flush takes a frozen part away
frozen_refused : (c : Rules) (s : Store) (z : List Cell) → s.frozen ≡ Some z → is_some (refuse c s freeze) ≡ true
unfolding refuse
frozen_refused c s z h = ap (λ o. is_some (cond (is_some o) (Some frozen_there) (cond (is_empty s.memory) (Some nothing_in_memory) None))) h

frozen_step : (c : Rules) (s : Store) (e : Event) (z : List Cell) → s.frozen ≡ Some z → is_some (refuse c s e) ≡ false → is_some (step c s e).frozen ≡ true → (step c s e).frozen ≡ Some z
unfolding step with_job without_job
frozen_step c s (apply m) z h f k = h
frozen_step c s freeze z h f k = absurd (absurd_bool (frozen_refused c s z h) f)
frozen_step c s flush z h f k = absurd (absurd_bool k refl)
frozen_step c s (compact i ids) z h f k = h
frozen_step c s (compact_all i) z h f k = h
frozen_step c s (finish i) z h f k = go (find_job i s.jobs)
  where
    go : (o : Option RunningJob) → (elim o as (λ _. Store) [ None ↦ s | Some u ↦ without_job c s u ]).frozen ≡ Some z
    go None = h
    go (Some u) = h

pub frozen_stays : (c : Rules) (s : Store) (e : Event) (z : List Cell) → s.frozen ≡ Some z → is_some (store_after c s e).frozen ≡ true → (store_after c s e).frozen ≡ Some z
unfolding store_after
frozen_stays c s e z h k = go (is_some (refuse c s e)) refl k
  where
    go : (b : Bool) → is_some (refuse c s e) ≡ b → is_some (cond b s (step c s e)).frozen ≡ true → (cond b s (step c s e)).frozen ≡ Some z
    go true f k = h
    go false f k = frozen_step c s e z h f k
