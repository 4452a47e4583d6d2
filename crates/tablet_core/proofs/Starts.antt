-- A job starts.
use Rattle.std.proofs.Common.{◌≡◌, ℕ, Bool, true, false, cond, List, [], ◌∷◌, ◌++◌, length, Option, Some, None, is_some, unwrap_or, eqb, ◌||◌, ◌≢◌, option_map, refl, sym, ap, subst, ◌∙◌, arith}
use Rattle.std.specs.List.{AllByRecursion, list_any}
use Rattle.std.specs.Option.{option_or}
use Rattle.std.proofs.lemmas.Bool.{eq-eqb}
use Rattle.tablet_model.specs.Steps.{StepAnswer, answer_to_step, compact, compact_all, find_job, first_missing, first_taken, ids_of, is_empty, job_exists, log_after, no_files, no_such_file, refuse, refuse_start, started, step, step_answer, store_after, takes_all, with_job}
use Rattle.tablet_model.specs.Store.{File, RunningJob, has_id}
use Rattle.tablet_model.proofs.Sums.{all_weaker}
use Rattle.stage_laws.proofs.FileLists.{takes_own}
use Rattle.tablet_view.specs.Snapshot.{IsStanding, store_of}
use Rattle.tablet_view.proofs.Orders.{extends_refl}
use Rattle.tablet_core.specs.State.{Answers, CoreState, IsStandingCore, state_of}
use Rattle.tablet_core.proofs.Moves.{IsMade, core_stands, reason, same_version}

-- why it does not
pub start_reason : (k : CoreState) (j : ℕ) (ids : List ℕ) (b d : Bool) (o p : Option StepAnswer) → is_some (find_job j k.jobs) ≡ b → is_empty ids ≡ d → first_missing (ids_of k.view.files) ids ≡ o → first_taken k.jobs ids ≡ p
    → reason (compact j ids) k ≡ cond b (Some (job_exists j)) (cond d (Some no_files) (option_or o p))
unfolding refuse refuse_start state_of store_of
start_reason k j ids b d o p e f g h = λ i. cond (e i) (Some (job_exists j)) (cond (f i) (Some no_files) (option_or (g i) (h i)))

pub all_reason : (k : CoreState) (j : ℕ) → reason (compact_all j) k ≡ reason (compact j (ids_of k.view.files)) k
unfolding refuse state_of store_of
all_reason k j = refl

-- the core behind it
abbrev pub started_core : CoreState → RunningJob → CoreState
started_core k t = record k { jobs = k.jobs ++ t ∷ [] }

pub start_made : (k : CoreState) (t : RunningJob) → reason (compact t.job t.ids) k ≡ None → t.full ≡ takes_all t.ids k.view.files → IsMade (compact t.job t.ids) k (started_core k t) (started t.job t.full)
unfolding state_of store_of step step_answer log_after with_job
start_made k t h e = record {
  free = h;
  answer = ap (started t.job) e;
  store = λ i. record { count = length k.view.log; files = k.view.files; next = k.next; frozen = k.view.frozen; memory = k.view.memory; jobs = k.jobs ++ record { job = t.job; full = e i; ids = t.ids } ∷ [] };
  log = refl;
  extends = extends_refl k.view;
  version_rises_by_one_at_most = same_version k.view.version;
}

pub start_stands : (k : CoreState) (t : RunningJob) → reason (compact t.job t.ids) k ≡ None → t.full ≡ takes_all t.ids k.view.files → IsStanding k.view → IsStandingCore k → IsStandingCore (started_core k t)
start_stands k t h e v i = core_stands (compact t.job t.ids) k (started_core k t) (started t.job t.full) v i (start_made k t h e) (λ l. l)

-- all files are those of their own numbers
pub all_answers : (k l : CoreState) (j : ℕ) (o : Option StepAnswer) → Answers (compact j (ids_of k.view.files)) k l o → Answers (compact_all j) k l o
unfolding refuse state_of store_of answer_to_step store_after step step_answer log_after
all_answers k l j None a = a
all_answers k l j (Some x) a = (
  a.0 ∙ ap (λ b. unwrap_or (refuse_start (state_of k) j (ids_of k.view.files)) (started j b)) (takes_own k.view.files),
  record {
    store = a.1.store ∙ ap (λ b. cond (is_some (refuse_start (state_of k) j (ids_of k.view.files))) (state_of k) (with_job (state_of k) j b (ids_of k.view.files))) (takes_own k.view.files);
    log = a.1.log;
    config = a.1.config;
    extends = a.1.extends;
    version_rises_by_one_at_most = a.1.version_rises_by_one_at_most;
    unchanged = a.1.unchanged;
  },
)

-- own numbers are there
none_missing : (there ids : List ℕ) → AllByRecursion (λ i. has_id there i ≡ true) ids → first_missing there ids ≡ None
unfolding first_missing
none_missing there [] h = refl
none_missing there (i ∷ is) h = ap (λ b. cond b (first_missing there is) (Some (no_such_file i))) h.0 ∙ none_missing there is h.1

own_ids : (ids : List ℕ) → AllByRecursion (λ i. has_id ids i ≡ true) ids
unfolding has_id
own_ids [] = tt
own_ids (i ∷ is) = (first (eqb i i) (list_any (eqb i) is) (eq-eqb i i refl), all_weaker (λ x. list_any (eqb x) is ≡ true) (λ x. (eqb x i || list_any (eqb x) is) ≡ true) (λ x h. second (eqb x i) (list_any (eqb x) is) h) is (own_ids is))
  where
    first : (a b : Bool) → a ≡ true → (a || b) ≡ true
    first a b h = grind arith

    second : (a b : Bool) → b ≡ true → (a || b) ≡ true
    second a b h = grind arith

pub all_there : (files : List File) → first_missing (ids_of files) (ids_of files) ≡ None
all_there files = none_missing (ids_of files) (ids_of files) (own_ids (ids_of files))

-- what stands behind a start, with or without memory
pub start_keeps : (k : CoreState) (t : RunningJob) (b : Bool) (jobs : List RunningJob) → reason (compact t.job t.ids) k ≡ None → t.full ≡ takes_all t.ids k.view.files → IsStanding k.view → IsStandingCore k → jobs ≡ cond b (k.jobs ++ t ∷ []) k.jobs → IsStandingCore (record k { jobs = jobs })
start_keeps k t true jobs h e v i j = subst (λ l. IsStandingCore (record k { jobs = l })) (sym j) (start_stands k t h e v i)
start_keeps k t false jobs h e v i j = subst (λ l. IsStandingCore (record k { jobs = l })) (sym j) i

-- whether there is one, by what it is in code
pub mapped_some : {X Y : Type 0} (f : X → Y) (o : Option X) (p : Option Y) → option_map f o ≡ p → is_some p ≡ is_some o
mapped_some {X = X} f o p e = ap is_some (sym e) ∙ counted o
  where
    counted : (o : Option X) → is_some (option_map f o) ≡ is_some o
    counted None = refl
    counted (Some x) = refl

pub no_length : {X : Type 0} (list : List X) → length list ≡ 0 → is_empty list ≡ true
unfolding is_empty
no_length [] h = refl
no_length (x ∷ xs) h = absurd (grind arith)

pub some_length : {X : Type 0} (list : List X) → length list ≢ 0 → is_empty list ≡ false
unfolding is_empty
some_length [] h = absurd (h refl)
some_length (x ∷ xs) h = refl

pub ids_empty : (files : List File) → is_empty (ids_of files) ≡ is_empty files
unfolding is_empty ids_of
ids_empty [] = refl
ids_empty (f ∷ fs) = refl
