-- Jobs, step by step.
use Rattle.std.proofs.Common.{◌≡◌, ◌||◌, not, ℕ, ◌+◌, ◌<◌, ◌<ℤ◌, Bool, true, false, cond, List, [], ◌∷◌, ◌++◌, eqb, Some, None, is_some, option_map, refl, sym, ap, ◌∙◌, subst, arith}
use Rattle.std.specs.List.{AllByRecursion, filter, list_any}
use Rattle.std.proofs.lemmas.Bool.{eqb-true, eq-eqb}
use Rattle.tablet_model.specs.Accepted.{IsOfColumns, AreAccepted, KeepsKeys}
use Rattle.tablet_model.specs.Cell.{Cell}
use Rattle.tablet_model.specs.Compactions.{full_compaction, minor_compaction, partial_compaction, partial_stages}
use Rattle.tablet_model.specs.Markers.{is_live, is_unmarked, live, mark}
use Rattle.tablet_model.specs.Order.{above}
use Rattle.tablet_model.specs.Rules.{AreSound, Rules, StandsFirst}
use Rattle.tablet_model.specs.Sorted.{later}
use Rattle.tablet_model.specs.Stages.{Stage}
use Rattle.tablet_model.specs.Stands.{AreAllNewer, AreApartIds, AreApartJobs, AreBelow, AreThere, HaveOwnNumbers, StandsInJobs}
use Rattle.tablet_model.specs.Steps.{find_job, first_missing, first_taken, holder, in_job, made_by, no_such_file, takes_all, with_job, without_job}
use Rattle.tablet_model.specs.Store.{File, RunningJob, Store, cells_of, has_id, input_of, files_with, files_without}
use Rattle.tablet_model.proofs.Combines.{all_both}
use Rattle.tablet_model.proofs.Ingests.{some_none, none_cond, none_first, none_map, none_second}
use Rattle.tablet_model.proofs.Merges.{all_append, all_sorted}
use Rattle.tablet_model.proofs.Orders.{above_exact}
use Rattle.tablet_model.proofs.Risings.{all_kept}
use Rattle.tablet_model.proofs.Sums.{all_filter, all_weaker}
use Rattle.tablet_model.proofs.Bools.{false-of-not}
use Rattle.stage_laws.proofs.FileLists.{AllCells, all_cells, all_files, all_filtered, all_where, apart_named, below_more, cells_one_more, eqb_sym, named_next, none_unnamed, not_next, there_append, there_unnamed, unnamed_next}
use Rattle.stage_laws.proofs.Kept.{absurd_bool, listed_key}
use Rattle.stage_laws.proofs.Parts.{LooksAtKeys, keys_stages, accepted_first, all_partial}
use Rattle.stage_laws.proofs.Whole.{full}

none_some : {X : Type 0} (x : X) → None ≡ Some x → ⊥
none_some x h = cc

some_same : {X : Type 0} (x y : X) → Some x ≡ Some y → x ≡ y
some_same x y h = cc

pub found_job : (P : RunningJob → Type 0) (j : ℕ) (jobs : List RunningJob) (t : RunningJob) → find_job j jobs ≡ Some t → AllByRecursion P jobs → P t
unfolding find_job
found_job P j [] t h all = absurd (none_some t h)
found_job P j (u ∷ us) t h all = go (eqb j u.job) h (λ k. found_job P j us t k all.1)
  where
    go : (b : Bool) → cond b (Some u) (find_job j us) ≡ Some t → (find_job j us ≡ Some t → P t) → P t
    go true k later = subst P (some_same u t k) all.0
    go false k later = later k

pub no_job : (j : ℕ) (jobs : List RunningJob) → is_some (find_job j jobs) ≡ false → AllByRecursion (λ u. eqb j u.job ≡ false) jobs
unfolding find_job
no_job j [] h = tt
no_job j (u ∷ us) h = go (eqb j u.job) refl h (no_job j us)
  where
    go : (b : Bool) → eqb j u.job ≡ b → is_some (cond b (Some u) (find_job j us)) ≡ false → (is_some (find_job j us) ≡ false → AllByRecursion (λ u. eqb j u.job ≡ false) us) → (eqb j u.job ≡ false) × AllByRecursion (λ u. eqb j u.job ≡ false) us
    go true e k ih = absurd (absurd_bool refl k)
    go false e k ih = (e, ih k)

pub none_missing : (there ids : List ℕ) → first_missing there ids ≡ None → AllByRecursion (λ i. has_id there i ≡ true) ids
unfolding first_missing
none_missing there [] h = tt
none_missing there (i ∷ is) h = go (has_id there i) refl h (none_missing there is)
  where
    go : (b : Bool) → has_id there i ≡ b → cond b (first_missing there is) (Some (no_such_file i)) ≡ None → (first_missing there is ≡ None → AllByRecursion (λ i. has_id there i ≡ true) is) → (has_id there i ≡ true) × AllByRecursion (λ i. has_id there i ≡ true) is
    go true e k ih = (e, ih k)
    go false e k ih = absurd (some_none (no_such_file i) k)

no_holder : (i : ℕ) (jobs : List RunningJob) → holder i jobs ≡ None → AllByRecursion (λ t. has_id t.ids i ≡ false) jobs
unfolding holder
no_holder i [] h = tt
no_holder i (t ∷ ts) h = let k = none_cond (has_id t.ids i) t.job (holder i ts) h in (k.0, no_holder i ts k.1)

none_taken : (jobs : List RunningJob) (ids : List ℕ) → first_taken jobs ids ≡ None → AllByRecursion (λ i. AllByRecursion (λ t. has_id t.ids i ≡ false) jobs) ids
unfolding first_taken
none_taken jobs [] h = tt
none_taken jobs (i ∷ is) h = (
  no_holder i jobs (none_map (in_job i) (holder i jobs) (none_first (option_map (in_job i) (holder i jobs)) (first_taken jobs is) h)),
  none_taken jobs is (none_second (option_map (in_job i) (holder i jobs)) (first_taken jobs is) h),
)

all_swap : (Q : ℕ → RunningJob → Type 0) (ids : List ℕ) (jobs : List RunningJob) → AllByRecursion (λ i. AllByRecursion (Q i) jobs) ids → AllByRecursion (λ t. AllByRecursion (λ i. Q i t) ids) jobs
all_swap Q ids [] h = tt
all_swap Q ids (t ∷ ts) h = (
  all_weaker (λ i. AllByRecursion (Q i) (t ∷ ts)) (λ i. Q i t) (λ i k. k.0) ids h,
  all_swap Q ids ts (all_weaker (λ i. AllByRecursion (Q i) (t ∷ ts)) (λ i. AllByRecursion (Q i) ts) (λ i k. k.1) ids h),
)

pub none_apart : (jobs : List RunningJob) (ids : List ℕ) → first_taken jobs ids ≡ None → AllByRecursion (λ t. AreApartIds ids t.ids) jobs
none_apart jobs ids h = all_swap (λ i t. has_id t.ids i ≡ false) ids jobs (none_taken jobs ids h)

-- apart both ways
apart_one : (xs ys : List ℕ) (y : ℕ) → AreApartIds xs ys → has_id ys y ≡ true → has_id xs y ≡ false
unfolding has_id
apart_one [] ys y a h = refl
apart_one (x ∷ xs) ys y a h = go (eqb y x) refl (apart_one xs ys y a.1 h)
  where
    go : (b : Bool) → eqb y x ≡ b → list_any (eqb y) xs ≡ false → (b || list_any (eqb y) xs) ≡ false
    go false e k = k
    go true e k = absurd (absurd_bool h (ap (λ j. list_any (eqb j) ys) (eqb-true y x e) ∙ a.0))

own_ids : (ys : List ℕ) → AllByRecursion (λ y. has_id ys y ≡ true) ys
unfolding has_id
own_ids [] = tt
own_ids (y ∷ ys) = (first (eqb y y) (list_any (eqb y) ys) (eq-eqb y y refl), all_weaker (λ x. list_any (eqb x) ys ≡ true) (λ x. (eqb x y || list_any (eqb x) ys) ≡ true) (λ x h. second (eqb x y) (list_any (eqb x) ys) h) ys (own_ids ys))
  where
    first : (a b : Bool) → a ≡ true → (a || b) ≡ true
    first a b h = grind arith

    second : (a b : Bool) → b ≡ true → (a || b) ≡ true
    second a b h = grind arith

pub apart_sym : (xs ys : List ℕ) → AreApartIds xs ys → AreApartIds ys xs
apart_sym xs ys a = all_weaker (λ y. has_id ys y ≡ true) (λ y. has_id xs y ≡ false) (λ y h. apart_one xs ys y a h) ys (own_ids ys)

-- a new job
own_more : (jobs : List RunningJob) (t : RunningJob) → AllByRecursion (λ u. eqb t.job u.job ≡ false) jobs → HaveOwnNumbers jobs → HaveOwnNumbers (jobs ++ t ∷ [])
own_more [] t h k = (tt, tt)
own_more (u ∷ us) t h k = (all_append (λ v. eqb u.job v.job ≡ false) us (t ∷ []) k.0 (eqb_sym t.job u.job h.0, tt), own_more us t h.1 k.1)

apart_more : (jobs : List RunningJob) (t : RunningJob) → AllByRecursion (λ u. AreApartIds t.ids u.ids) jobs → AreApartJobs jobs → AreApartJobs (jobs ++ t ∷ [])
apart_more jobs t new old =
    let Apart : RunningJob → RunningJob → Type 0 = λ u v. eqb u.job v.job ≡ false → AreApartIds u.ids v.ids in
    all_append (λ u. AllByRecursion (Apart u) (jobs ++ t ∷ [])) jobs (t ∷ [])
    (all_both (λ u. AllByRecursion (Apart u) jobs) (λ u. AreApartIds t.ids u.ids) (λ u. AllByRecursion (Apart u) (jobs ++ t ∷ [])) (λ u a b. all_append (Apart u) jobs (t ∷ []) a ((λ _. apart_sym t.ids u.ids b), tt)) jobs old new)
    (all_append (Apart t) jobs (t ∷ []) (all_weaker (λ u. AreApartIds t.ids u.ids) (Apart t) (λ u a _. a) jobs new) ((λ e. absurd (absurd_bool (eq-eqb t.job t.job refl) e)), tt), tt)

-- cells of no files
none : (plain : Cell → Bool) (a : List Cell) → AreAllNewer plain (cells_of []) a
unfolding cells_of
none plain a = tt

-- why a job may start
pub record MayStart (s : Store) (j : ℕ) (ids : List ℕ) : Type 0 where
  pub new_number : AllByRecursion (λ u. eqb j u.job ≡ false) s.jobs
  pub there : AreThere s.files ids
  pub apart : AllByRecursion (λ u. AreApartIds ids u.ids) s.jobs

pub jobs_started : (c : Rules) (s : Store) (j : ℕ) (full : Bool) (ids : List ℕ) → MayStart s j ids → (full ≡ true → takes_all ids s.files ≡ true) → StandsInJobs c s → StandsInJobs c (with_job s j full ids)
unfolding with_job
jobs_started c s j full ids may all h =
    let t : RunningJob = record { job = j; full = full; ids = ids } in
    record {
      below = h.below;
      files_there = all_append (λ t. AreThere s.files t.ids) s.jobs (t ∷ []) h.files_there (may.there, tt);
      own_numbers = own_more s.jobs t may.new_number h.own_numbers;
      files_apart = apart_more s.jobs t may.apart h.files_apart;
      others_newer = all_append (λ t. t.full ≡ true → AreAllNewer c.plain (cells_of (files_without t.ids s.files)) (cells_of (files_with t.ids s.files))) s.jobs (t ∷ []) h.others_newer
          ((λ e. subst (λ l. AreAllNewer c.plain (cells_of l) (cells_of (files_with ids s.files))) (sym (none_unnamed ids s.files (all e))) (none c.plain (cells_of (files_with ids s.files)))), tt);
    }

-- a new file beside the jobs
pub newer_looks : (plain : Cell → Bool) → IsOfColumns plain → (a : List Cell) → LooksAtKeys (λ e. plain e ≡ true → AllByRecursion (λ d. plain d ≡ true → d.key.time <ℤ e.key.time) a)
newer_looks plain cols a x y e h p = subst (λ k. AllByRecursion (λ d. plain d ≡ true → d.key.time <ℤ k.time) a) e (h (listed_key y x (sym e) {listed = plain} cols ∙ p))

abbrev IsNewerThan : (Cell → Bool) → List Cell → Cell → Type 0
IsNewerThan plain a e = plain e ≡ true → AllByRecursion (λ d. plain d ≡ true → d.key.time <ℤ e.key.time) a

newer_of_more : (plain : Cell → Bool) (ids : List ℕ) (files : List File) (f : File) → has_id ids f.id ≡ false → AreAllNewer plain (cells_of (files_without ids files)) (cells_of (files_with ids files)) → AreAllNewer plain f.cells (cells_of (files_with ids files)) → AreAllNewer plain (cells_of (files_without ids (files ++ f ∷ []))) (cells_of (files_with ids (files ++ f ∷ [])))
newer_of_more plain ids files f out h k =
    subst (λ l. AreAllNewer plain (cells_of l) (cells_of (files_with ids (files ++ f ∷ [])))) (sym (unnamed_next ids files f out))
    (subst (λ l. AreAllNewer plain (cells_of (files_without ids files ++ f ∷ [])) (cells_of l)) (sym (named_next ids files f out))
    (cells_one_more (IsNewerThan plain (cells_of (files_with ids files))) (files_without ids files) f h k))

-- of fewer files
pub fewer : (P : Cell → Type 0) (ids : List ℕ) (files : List File) → AllByRecursion P (cells_of files) → AllByRecursion P (cells_of (files_with ids files))
unfolding files_with
fewer P ids files h = all_cells P (files_with ids files) (all_filter (AllCells P) (λ f. has_id ids f.id) files (all_files P files h))

pub jobs_flushed : (c : Rules) (s : Store) (cells : List Cell) → AreBelow s.next s.files → AreAllNewer c.plain cells (cells_of s.files) → StandsInJobs c s → StandsInJobs c (record s { files = s.files ++ record { id = s.next; cells = cells } ∷ []; next = s.next + 1; frozen = None })
jobs_flushed c s cells nums newer h =
    let f : File = record { id = s.next; cells = cells } in
    record {
      below = below_more s.next s.files cells nums;
      files_there = all_weaker (λ t. AreThere s.files t.ids) (λ t. AreThere (s.files ++ f ∷ []) t.ids) (λ t k. there_append s.files f t.ids k) s.jobs h.files_there;
      own_numbers = h.own_numbers;
      files_apart = h.files_apart;
      others_newer = all_both (λ t. AreThere s.files t.ids) (λ t. t.full ≡ true → AreAllNewer c.plain (cells_of (files_without t.ids s.files)) (cells_of (files_with t.ids s.files)))
          (λ t. t.full ≡ true → AreAllNewer c.plain (cells_of (files_without t.ids (s.files ++ f ∷ []))) (cells_of (files_with t.ids (s.files ++ f ∷ []))))
          (λ t k l e. newer_of_more c.plain t.ids s.files f (not_next s.next s.files t.ids nums k) (l e)
          (all_weaker (IsNewerThan c.plain (cells_of s.files)) (IsNewerThan c.plain (cells_of (files_with t.ids s.files))) (λ e m p. fewer (λ d. c.plain d ≡ true → d.key.time <ℤ e.key.time) t.ids s.files (m p)) cells newer))
          s.jobs h.files_there h.others_newer;
    }

shrink : (P : Cell → Type 0) (p q : File → Bool) (files : List File) → AllByRecursion P (cells_of (filter p files)) → AllByRecursion P (cells_of (filter p (filter q files)))
shrink P p q files h = all_cells P (filter p (filter q files)) (all_filtered (AllCells P) p (filter q files) (all_filter (λ f. p f ≡ true → AllCells P f) q files (all_where (AllCells P) p files (all_files P (filter p files) h))))

moved : (P : Cell → Type 0) (ids others : List ℕ) (files : List File) → AreApartIds ids others → AllByRecursion P (cells_of (files_without others files)) → AllByRecursion P (cells_of (files_with ids files))
unfolding files_with files_without
moved P ids others files a h = all_cells P (files_with ids files) (all_filtered (AllCells P) (λ f. has_id ids f.id) files
    (all_both (λ f. not (has_id others f.id) ≡ true → AllCells P f) (λ f. has_id ids f.id ≡ true → not (has_id others f.id) ≡ true) (λ f. has_id ids f.id ≡ true → AllCells P f) (λ f k l e. k (l e)) files (all_where (AllCells P) (λ f. not (has_id others f.id)) files (all_files P (files_without others files) h)) (apart_named ids others files a)))

shrink_named : (P : Cell → Type 0) (ids others : List ℕ) (files : List File) → AllByRecursion P (cells_of (files_with ids files)) → AllByRecursion P (cells_of (files_with ids (files_without others files)))
unfolding files_with files_without
shrink_named P ids others files h = shrink P (λ f. has_id ids f.id) (λ f. not (has_id others f.id)) files h

shrink_unnamed : (P : Cell → Type 0) (ids others : List ℕ) (files : List File) → AllByRecursion P (cells_of (files_without ids files)) → AllByRecursion P (cells_of (files_without ids (files_without others files)))
unfolding files_without
shrink_unnamed P ids others files h = shrink P (λ f. not (has_id ids f.id)) (λ f. not (has_id others f.id)) files h

pub fewer_files : (P : Cell → Type 0) (ids : List ℕ) (files : List File) → AllByRecursion P (cells_of files) → AllByRecursion P (cells_of (files_without ids files))
unfolding files_without
fewer_files P ids files h = all_cells P (files_without ids files) (all_filter (AllCells P) (λ f. not (has_id ids f.id)) files (all_files P files h))

-- the first stages of a configuration keep keys
first_keys : (c : Rules) → AreSound c → (ps : List Stage) → StandsFirst ps c.base → AllByRecursion KeepsKeys ps
first_keys c law ps first = accepted_first ps first.0 (subst AreAccepted (sym first.1) law.accepted)

-- what a job makes has keys of its input
pub made_keys : (P : Cell → Type 0) → LooksAtKeys P → (c : Rules) → AreSound c → (s : Store) (t : RunningJob) → AllByRecursion P (cells_of (files_with t.ids s.files)) → AllByRecursion P (made_by c s t)
unfolding made_by input_of mark live
made_keys P looks c law s t h = go t.full
  where
    keys : AllByRecursion KeepsKeys c.major
    keys = first_keys c law c.major law.major_first

    input : AllByRecursion P (input_of t.ids s.files)
    input = all_sorted above above_exact P (cells_of (files_with t.ids s.files)) h

    go : (b : Bool) → AllByRecursion P (cond b (full_compaction c.major (input_of t.ids s.files)) (partial_compaction c.major (input_of t.ids s.files)))
    go true = keys_stages P looks c.major keys (live (input_of t.ids s.files)) (all_filter P (is_live (input_of t.ids s.files)) (input_of t.ids s.files) input)
    go false = keys_stages P looks (partial_stages c.major) (all_partial KeepsKeys c.major keys) (mark (input_of t.ids s.files)) (all_kept P is_unmarked [] (input_of t.ids s.files) input)

pub minor_keys : (P : Cell → Type 0) → LooksAtKeys P → (c : Rules) → AreSound c → (list : List Cell) → AllByRecursion P list → AllByRecursion P (minor_compaction c.minor list)
unfolding mark
minor_keys P looks c law list h = keys_stages P looks c.minor (first_keys c law c.minor law.minor_first) (mark list) (all_kept P is_unmarked [] list h)

below_left : (next : ℕ) (ids : List ℕ) (files : List File) → AreBelow next files → AreBelow next (files_without ids files)
unfolding files_without
below_left next ids files h = all_filter (λ f. f.id < next) (λ f. not (has_id ids f.id)) files h

own_fewer : (p : RunningJob → Bool) (jobs : List RunningJob) → HaveOwnNumbers jobs → HaveOwnNumbers (filter p jobs)
own_fewer p [] h = tt
own_fewer p (t ∷ ts) h = go (p t) (own_fewer p ts h.1)
  where
    go : (b : Bool) → HaveOwnNumbers (filter p ts) → HaveOwnNumbers (cond b (t ∷ filter p ts) (filter p ts))
    go true k = (all_filter (λ u. eqb t.job u.job ≡ false) p ts h.0, k)
    go false k = k

pub jobs_finished : (c : Rules) → AreSound c → (s : Store) (j : ℕ) (t : RunningJob) → find_job j s.jobs ≡ Some t → AreBelow s.next s.files → StandsInJobs c s → StandsInJobs c (without_job c s t)
unfolding without_job
jobs_finished c law s j t found nums h = record {
  below = below_more s.next left f.cells (below_left s.next t.ids s.files nums);
  files_there = all_filtered (λ u. AreThere (left ++ f ∷ []) u.ids) other s.jobs
      (all_both (λ u. AreThere s.files u.ids) (λ u. AreApartFrom u) (λ u. other u ≡ true → AreThere (left ++ f ∷ []) u.ids) (λ u k a o. there_append left f u.ids (there_unnamed t.ids s.files u.ids (apart_sym t.ids u.ids (a (false-of-not (eqb t.job u.job) o))) k)) s.jobs h.files_there apart);
  own_numbers = own_fewer other s.jobs h.own_numbers;
  files_apart = all_filter (λ u. AllByRecursion (λ v. eqb u.job v.job ≡ false → AreApartIds u.ids v.ids) (filter other s.jobs)) other s.jobs
      (all_weaker (λ u. AllByRecursion (λ v. eqb u.job v.job ≡ false → AreApartIds u.ids v.ids) s.jobs) (λ u. AllByRecursion (λ v. eqb u.job v.job ≡ false → AreApartIds u.ids v.ids) (filter other s.jobs)) (λ u k. all_filter (λ v. eqb u.job v.job ≡ false → AreApartIds u.ids v.ids) other s.jobs k) s.jobs h.files_apart);
  others_newer = all_filtered IsNewerAfter other s.jobs
      (all_both (λ u. AreThere s.files u.ids × AreApartFrom u) (λ u. u.full ≡ true → AreAllNewer c.plain (cells_of (files_without u.ids s.files)) (cells_of (files_with u.ids s.files))) (λ u. other u ≡ true → IsNewerAfter u) (λ u k l o e. newer u k.0 (k.1 (false-of-not (eqb t.job u.job) o)) (l e)) s.jobs
      (all_both (λ u. AreThere s.files u.ids) AreApartFrom (λ u. AreThere s.files u.ids × AreApartFrom u) (λ u a b. (a, b)) s.jobs h.files_there apart) h.others_newer);
}
  where
    other : RunningJob → Bool
    other u = not (eqb t.job u.job)

    left : List File
    left = files_without t.ids s.files

    f : File
    f = record { id = s.next; cells = made_by c s t }

    AreApartFrom : RunningJob → Type 0
    AreApartFrom u = eqb t.job u.job ≡ false → AreApartIds t.ids u.ids

    IsNewerAfter : RunningJob → Type 0
    IsNewerAfter u = u.full ≡ true → AreAllNewer c.plain (cells_of (files_without u.ids (left ++ f ∷ []))) (cells_of (files_with u.ids (left ++ f ∷ [])))

    apart : AllByRecursion AreApartFrom s.jobs
    apart = found_job (λ t. AllByRecursion (λ u. eqb t.job u.job ≡ false → AreApartIds t.ids u.ids) s.jobs) j s.jobs t found h.files_apart

    newer : (u : RunningJob) → AreThere s.files u.ids → AreApartIds t.ids u.ids → AreAllNewer c.plain (cells_of (files_without u.ids s.files)) (cells_of (files_with u.ids s.files)) → AreAllNewer c.plain (cells_of (files_without u.ids (left ++ f ∷ []))) (cells_of (files_with u.ids (left ++ f ∷ [])))
    newer u there out k =
        let less : AreAllNewer c.plain (cells_of (files_without u.ids s.files)) (cells_of (files_with u.ids left)) = all_weaker (IsNewerThan c.plain (cells_of (files_with u.ids s.files))) (IsNewerThan c.plain (cells_of (files_with u.ids left))) (λ e m p. shrink_named (λ d. c.plain d ≡ true → d.key.time <ℤ e.key.time) u.ids t.ids s.files (m p)) (cells_of (files_without u.ids s.files)) k in
        newer_of_more c.plain u.ids left f (not_next s.next s.files u.ids nums there)
        (shrink_unnamed (IsNewerThan c.plain (cells_of (files_with u.ids left))) u.ids t.ids s.files less)
        (made_keys (IsNewerThan c.plain (cells_of (files_with u.ids left))) (newer_looks c.plain law.plain_columns (cells_of (files_with u.ids left))) c law s t (moved (IsNewerThan c.plain (cells_of (files_with u.ids left))) t.ids u.ids s.files out less))
