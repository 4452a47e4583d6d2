-- A job's file stands in the place of its files.
use Rattle.std.proofs.Common.{◌≡◌, ℕ, ◌+◌, ◌≤◌, Bool, true, false, cond, not, eqb, List, [], ◌∷◌, ◌++◌, length, map, take, Option, Some, None, IfSome, is_some, option_map, inl, inr, refl, sym, ap, ◌∙◌, arith}
use Rattle.std.specs.List.{filter}
use Rattle.std.proofs.lemmas.Bool.{eqb-true}
use Rattle.std.proofs.lemmas.List.{map-append}
use Rattle.tablet_model.specs.Cell.{Cell}
use Rattle.tablet_model.specs.Compactions.{full_compaction, partial_compaction}
use Rattle.tablet_model.specs.Stands.{AreAllNewer}
use Rattle.tablet_model.specs.Steps.{StepAnswer, find_job, finish, finished, log_after, made_by, no_such_job, refuse, step, step_answer, without_job}
use Rattle.tablet_model.specs.Store.{File, RunningJob, Store, cells_of, has_id, input_of, files_with, files_without}
use Rattle.tablet_model.specs.Sum.{sum_all}
use Rattle.stage_laws.proofs.Jobs.{found_job}
use Rattle.stage_laws.proofs.JobsStay.{all_true}
use Rattle.iter_config.specs.RulesOf.{rules_of}
use Rattle.compactor.specs.Compacted.{Compaction, entries_made}
use Rattle.iter_stack.specs.Usages.{usage_cells}
use Rattle.iter_stack.specs.declared.usage.Usage.TheVariants.{MajcFull, MajcPart}
use Rattle.tablet_view.specs.Snapshot.{IsMajorOf, IsStanding, OthersAreNewer, after_major, store_of}
use Rattle.tablet_view.proofs.Inputs.{files_input}
use Rattle.tablet_view.proofs.Orders.{extends_replaced}
use Rattle.tablet_core.specs.Jobs.{major_of}
use Rattle.tablet_core.specs.State.{Answers, CoreState, IsStandingCore, state_of}
use Rattle.tablet_core.proofs.FilesAt.{FileAt}
use Rattle.tablet_core.proofs.Moves.{IsMade, core_stands, next_version, reason, unmade}

-- why it does not
pub finish_reason : (k : CoreState) (j : ℕ) (b : Bool) → is_some (find_job j k.jobs) ≡ b → reason (finish j) k ≡ cond b None (Some (no_such_job j))
unfolding refuse state_of store_of
finish_reason k j b h = λ i. cond (h i) None (Some (no_such_job j))

pub finish_nothing : (k : CoreState) (j : ℕ) → find_job j k.jobs ≡ None → Answers (finish j) k k (Some (no_such_job j))
finish_nothing k j h = unmade (finish j) k (Some (no_such_job j)) (sym (finish_reason k j false (ap is_some h)))

pub finish_unmade : (k : CoreState) (j : ℕ) → is_some (find_job j k.jobs) ≡ true → Answers (finish j) k k None
finish_unmade k j h = unmade (finish j) k None (sym (finish_reason k j true h))

-- the core behind it
unfoldable pub finished_core : CoreState → ℕ → RunningJob → List Cell → CoreState
finished_core k j t cells = record k { view = after_major k.view t.ids k.next cells; next = k.next + 1; jobs = filter (λ u. not (eqb j u.job)) k.jobs }

find_filtered : (j : ℕ) (jobs : List RunningJob) → find_job j (filter (λ u. eqb j u.job) jobs) ≡ find_job j jobs
unfolding find_job
find_filtered j [] = refl
find_filtered j (t ∷ ts) = go (eqb j t.job) refl (find_filtered j ts)
  where
    go : (b : Bool) → eqb j t.job ≡ b → find_job j (filter (λ u. eqb j u.job) ts) ≡ find_job j ts → find_job j (cond b (t ∷ filter (λ u. eqb j u.job) ts) (filter (λ u. eqb j u.job) ts)) ≡ cond b (Some t) (find_job j ts)
    go true e ih = ap (λ b. cond b (Some t) (find_job j (filter (λ u. eqb j u.job) ts))) e
    go false e ih = ih

found_number : (j : ℕ) (jobs : List RunningJob) (t : RunningJob) → find_job j jobs ≡ Some t → j ≡ t.job
found_number j jobs t f = eqb-true j t.job (found_job (λ u. eqb j u.job ≡ true) j (filter (λ u. eqb j u.job) jobs) t (find_filtered j jobs ∙ f) (all_true (λ u. eqb j u.job) jobs))

-- what a job makes of a core's files
abbrev pub made_in : CoreState → RunningJob → List Cell
made_in k t = made_by (rules_of k.view.config) (state_of k) t

finished_is : (k : CoreState) (j : ℕ) (t : RunningJob) (cells : List Cell) → find_job j k.jobs ≡ Some t → cells ≡ made_in k t → state_of (finished_core k j t cells) ≡ without_job (rules_of k.view.config) (state_of k) t
unfolding finished_core state_of store_of without_job
finished_is k j t cells f m = λ i. record {
  count = length k.view.log;
  files = files_without t.ids k.view.files ++ record { id = k.next; cells = m i } ∷ [];
  next = k.next + 1;
  frozen = k.view.frozen;
  memory = k.view.memory;
  jobs = filter (λ u. not (eqb (found_number j k.jobs t f i) u.job)) k.jobs;
}

answer_is : (k : CoreState) (j : ℕ) (t : RunningJob) (cells : List Cell) → find_job j k.jobs ≡ Some t → cells ≡ made_in k t → finished j k.next (length cells) ≡ step_answer (rules_of k.view.config) (state_of k) (finish j)
unfolding step_answer state_of store_of
answer_is k j t cells f m = ap (λ l. finished j k.next (length l)) m ∙ sym (ap (λ o. elim o as (λ _. StepAnswer) [ None ↦ no_such_job j | Some t ↦ finished j k.next (length (made_in k t)) ]) f)

step_is : (k : CoreState) (j : ℕ) (t : RunningJob) → find_job j k.jobs ≡ Some t → without_job (rules_of k.view.config) (state_of k) t ≡ step (rules_of k.view.config) (state_of k) (finish j)
unfolding step state_of store_of
step_is k j t f = sym (ap (λ o. elim o as (λ _. Store) [ None ↦ state_of k | Some t ↦ without_job (rules_of k.view.config) (state_of k) t ]) f)

pub finish_made : (k : CoreState) (j : ℕ) (t : RunningJob) (cells : List Cell) → find_job j k.jobs ≡ Some t → cells ≡ made_in k t → IsMade (finish j) k (finished_core k j t cells) (finished j k.next (length cells))
unfolding finished_core log_after
finish_made k j t cells f m = record {
  free = finish_reason k j true (ap is_some f);
  answer = answer_is k j t cells f m;
  store = finished_is k j t cells f m ∙ step_is k j t f;
  log = refl;
  extends = extends_replaced k.view t.ids k.next cells;
  version_rises_by_one_at_most = next_version k.view.version;
}

pub finish_stands : (k : CoreState) (j : ℕ) (t : RunningJob) (cells : List Cell) → find_job j k.jobs ≡ Some t → cells ≡ made_in k t → IsStanding k.view → IsStandingCore k → IsStandingCore (finished_core k j t cells)
unfolding finished_core
finish_stands k j t cells f m v i = core_stands (finish j) k (finished_core k j t cells) (finished j k.next (length cells)) v i (finish_made k j t cells f m) (both_more k.next (k.view.version + 1))
  where
    both_more : (a b : ℕ) → a ≤ b → a + 1 ≤ b + 1
    both_more a b h = omega arith

-- it is a partial compaction, or a full one, and then all other files are newer
newer_of : (k : CoreState) (j : ℕ) (t : RunningJob) → IsStandingCore k → find_job j k.jobs ≡ Some t → t.full ≡ true → OthersAreNewer k.view t.ids
unfolding state_of store_of
newer_of k j t i f = found_job (λ t. t.full ≡ true → AreAllNewer (rules_of k.view.config).plain (cells_of (files_without t.ids k.view.files)) (cells_of (files_with t.ids k.view.files))) j k.jobs t f i.jobs.others_newer

pub major_is : (k : CoreState) (j : ℕ) (t : RunningJob) (cells : List Cell) → find_job j k.jobs ≡ Some t → cells ≡ made_in k t → IsStandingCore k → IsMajorOf k.view t.ids cells
unfolding made_by state_of store_of
major_is k j t cells f m i = go t.full refl
  where
    go : (b : Bool) → t.full ≡ b → IsMajorOf k.view t.ids cells
    go true e = inr (m ∙ ap (λ b. cond b (full_compaction (rules_of k.view.config).major (input_of t.ids k.view.files)) (partial_compaction (rules_of k.view.config).major (input_of t.ids k.view.files))) e, newer_of k j t i f e)
    go false e = inl (m ∙ ap (λ b. cond b (full_compaction (rules_of k.view.config).major (input_of t.ids k.view.files)) (partial_compaction (rules_of k.view.config).major (input_of t.ids k.view.files))) e)

-- what a `Some` came from
pub record Found {X Y : Type 0} (f : X → Y) (o : Option X) (y : Y) : Type 0 where
  pub from : X
  pub found : o ≡ Some from
  pub is : y ≡ f from

pub some_found : {X Y : Type 0} (f : X → Y) (o : Option X) (y : Y) → Some y ≡ option_map f o → Found f o y
some_found f None y h = absurd (let k : Some y ≡ None = h in cc)
some_found f (Some x) y h = record { from = x; found = refl; is = (let k : Some y ≡ Some (f x) = h in cc) }

pub none_found : {X Y : Type 0} (f : X → Y) (o : Option X) → None ≡ option_map f o → o ≡ None
none_found f None h = refl
none_found f (Some x) h = absurd (let k : None ≡ Some (f x) = h in cc)

-- what the job of a running job makes
pub major_makes : (k : CoreState) (t : RunningJob) → entries_made (major_of k.view t) ≡ made_in k t
unfolding major_of usage_cells made_by state_of store_of
major_makes k t = go t.full
  where
    go : (b : Bool) → usage_cells k.view.config (cond b MajcFull MajcPart) (input_of t.ids k.view.files) ≡ cond b (full_compaction (rules_of k.view.config).major (input_of t.ids k.view.files)) (partial_compaction (rules_of k.view.config).major (input_of t.ids k.view.files))
    go true = refl
    go false = refl

pub job_makes : (k : CoreState) (j : ℕ) (done : Compaction) → Some done ≡ option_map (major_of k.view) (find_job j k.jobs) → IfSome (find_job j k.jobs) (λ t. entries_made done ≡ made_in k t)
job_makes k j done = go (find_job j k.jobs)
  where
    go : (o : Option RunningJob) → Some done ≡ option_map (major_of k.view) o → IfSome o (λ t. entries_made done ≡ made_in k t)
    go None h = tt
    go (Some t) h = (let e : Some done ≡ Some (major_of k.view t) = h in let d : done ≡ major_of k.view t = cc in ap entries_made d ∙ major_makes k t)

-- its parts
pub named_at : (ids : List ℕ) (files : List File) (i id : ℕ) (a : FileAt files i id) → files_with ids (take (i + 1) files) ≡ files_with ids (take i files) ++ cond (has_id ids id) (a.file ∷ []) []
unfolding files_with
named_at ids files i id a = ap (files_with ids) a.back ∙ last (take i files) ∙ ap (λ n. files_with ids (take i files) ++ cond (has_id ids n) (a.file ∷ []) []) a.number
  where
    last : (xs : List File) → files_with ids (xs ++ a.file ∷ []) ≡ files_with ids xs ++ cond (has_id ids a.file.id) (a.file ∷ []) []
    last [] = refl
    last (x ∷ xs) = go (has_id ids x.id) (last xs)
      where
        go : (b : Bool) → files_with ids (xs ++ a.file ∷ []) ≡ files_with ids xs ++ cond (has_id ids a.file.id) (a.file ∷ []) [] → cond b (x ∷ files_with ids (xs ++ a.file ∷ [])) (files_with ids (xs ++ a.file ∷ [])) ≡ cond b (x ∷ files_with ids xs) (files_with ids xs) ++ cond (has_id ids a.file.id) (a.file ∷ []) []
        go true h = ap (λ l. x ∷ l) h
        go false h = h

pub parts_sum : (ids : List ℕ) (files : List File) (lists : List (List Cell)) → lists ≡ map (λ f. f.cells) (files_with ids files) → sum_all lists ≡ input_of ids files
parts_sum ids files lists h = ap sum_all h ∙ files_input ids files

pub parts_at : (ids : List ℕ) (files : List File) (i id : ℕ) (a : FileAt files i id) (b : Bool) (lists : List (List Cell)) → has_id ids id ≡ b → lists ≡ map (λ f. f.cells) (files_with ids (take i files)) → lists ++ cond b (a.file.cells ∷ []) [] ≡ map (λ f. f.cells) (files_with ids (take (i + 1) files))
parts_at ids files i id a b lists h l =
    (λ j. l j ++ cond b (a.file.cells ∷ []) [])
    ∙ sym (map-append (λ f. f.cells) (files_with ids (take i files)) (cond b (a.file ∷ []) []) ∙ ap (λ l. map (λ f. f.cells) (files_with ids (take i files)) ++ l) (one b))
    ∙ ap (map (λ f. f.cells)) (ap (λ b. files_with ids (take i files) ++ cond b (a.file ∷ []) []) (sym h) ∙ sym (named_at ids files i id a))
  where
    one : (b : Bool) → map (λ f. f.cells) (cond b (a.file ∷ []) []) ≡ cond b (a.file.cells ∷ []) []
    one true = refl
    one false = refl
