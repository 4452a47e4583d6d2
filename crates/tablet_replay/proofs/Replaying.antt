-- What the program keeps, step by step, and what the text says of it.
use Rattle.std.proofs.Common.{◌≡◌, ◌==◌, ℕ, Bool, cond, List, [], ◌∷◌, ◌++◌, map, length, Option, Some, None, slice_get, refl, sym, ap, ◌∙◌, subst}
use Rattle.std.specs.Prelude.{flat_map, is_some, position, remove, slice_set, IsSomeAnd, OnOk, Result, Ok, Err}
use Rattle.std.proofs.lemmas.List.{map-append}
use Rattle.tablet_model.specs.Cuts.{Span}
use Rattle.tablet_model.specs.Ingest.{ingest}
use Rattle.tablet_model.specs.History.{RowChange}
use Rattle.tablet_model.specs.Steps.{Event, StepAnswer, apply, freeze, flush, compact, compact_all, finish, log_after}
use Rattle.tablet_model.specs.Store.{File, RunningJob, Store}
use Rattle.iter_config.specs.RulesOf.{rules_of}
use Rattle.iter_config.specs.Settings.{Settings}
use Rattle.compactor.specs.Jobs.{job_of}
use Rattle.compactor.specs.declared.job_state.JobState.{JobState}
use Rattle.tablet_steps.specs.Texts.{refusal_line}
use Rattle.script_text.specs.SessionAnswers.{opened_line}
use Rattle.script_text.specs.declared.line.SessionStep.TheVariants as step
use Rattle.tablet_steps.specs.declared.refusal.LineRefusal.TheVariants.{NoSession, SessionOpen}
use Rattle.script_text.specs.StatusAnswers.{file_line, frozen_line, job_line, log_line, memory_line}
use Rattle.tablet_core.specs.State.{Answers, CoreState, IsStep, state_of}
use Rattle.tablet_core.specs.Status.{IsStatusOf, count_of}
use Rattle.tablet_core.specs.declared.status.StoreStatus.{StoreStatus}
use Rattle.tablet_view.specs.Snapshot.{store_of}
use Rattle.tablet_replay.specs.Replay.{Replayed, after_session_step, after_step, if_open, log_behind, session_text, opened_scan, where_open}
use Rattle.tablet_replay.specs.Sessions.{OpenScan, find_session, place_of, with_session, without_session}
use Rattle.tablet_replay.specs.StatusText.{count_lines, state_lines, status_lines}
use Rattle.tablet_replay.specs.Status.{file_lines, job_lines, status_text}
use Rattle.tablet_replay.specs.TabletParts.{ArePinned, open_scan, replayed_by}
use Rattle.tablet_replay.specs.declared.sessions.OpenSession.{OpenSession}
use Rattle.tablet_replay.proofs.OpenSessions.{all_pinned, none_open, one_open, removed_scan, scan_at, set_scan}

-- behind a step each session is on a view that the present one extends
pub pinned_step : (e : Event) (k l : CoreState) (a : Option StepAnswer) → Answers e k l a → (ss : List OpenSession) → ArePinned k.view ss → ArePinned l.view ss
pinned_step e k l None h ss all = subst (λ (m : CoreState). ArePinned m.view ss) (sym h.1) all
pinned_step e k l (Some a) h ss all = all_pinned k.view l.view h.1.extends ss all

-- the history that the store's count gives is that of its own length
pub logs_are : (config : Settings) (s : Store) (log : List RowChange) (e : Event) → s.count ≡ length log → log_after (rules_of config) s log e ≡ log_behind config log e
unfolding log_after log_behind
logs_are config s log (apply m) h = ap (λ n. cond (is_some (ingest (rules_of config) n m)) log (log ++ m ∷ [])) h
logs_are config s log freeze h = refl
logs_are config s log flush h = refl
logs_are config s log (compact j ids) h = refl
logs_are config s log (compact_all j) h = refl
logs_are config s log (finish j) h = refl

-- so a step of the core is one of the text
pub step_replayed : (e : Event) (k l : CoreState) (ss : List OpenSession) → IsStep e k l
    → replayed_by (record { core = l; sessions = ss }) ≡ after_step (replayed_by (record { core = k; sessions = ss })) e
unfolding state_of store_of
step_replayed e k l ss h = λ i. record {
  config = h.config i;
  log = (h.log ∙ logs_are k.view.config (state_of k) k.view.log e refl) i;
  store = h.store i;
  sessions = map open_scan ss;
}

-- a step with an answer is made
pub step_made : (e : Event) (k l : CoreState) (o : Option StepAnswer) (Q : StepAnswer → Type 0) → IsSomeAnd o Q → Answers e k l o → IsStep e k l
step_made e k l None Q some a = absurd some
step_made e k l (Some x) Q some a = a.1

-- what follows where there was memory
pub where_ok : {X Y P Q : Type 0} (r : Result X Y) → (P → Q) → OnOk r P → OnOk r Q
where_ok (Ok x) f h = f h
where_ok (Err y) f h = tt

-- ---- the status

counts_are : (files : List File) → count_lines (map count_of files) ≡ file_lines files
counts_are [] = refl
counts_are (f ∷ fs) = ap (λ l. file_line f.id (length f.cells) ++ l) (counts_are fs)

states_are : (jobs : List JobState) → state_lines jobs ≡ flat_map (λ (j : RunningJob). job_line j.job j.full j.ids) (map job_of jobs)
states_are [] = refl
states_are (j ∷ js) = ap (λ l. job_line j.job j.full j.files ++ l) (states_are js)

pub status_is : (k : CoreState) (s : StoreStatus) → IsStatusOf k s → status_lines s ≡ status_text (state_of k)
unfolding status_text state_of store_of
status_is k s h = λ i. log_line (h.log i) ++ memory_line (h.memory i) ++ frozen_line (h.frozen i) ++ files i ++ jobs i
  where
    files : count_lines s.files ≡ file_lines k.view.files
    files = ap count_lines h.files ∙ counts_are k.view.files

    jobs : state_lines s.jobs ≡ job_lines k.jobs
    jobs = states_are s.jobs ∙ ap (flat_map (λ (j : RunningJob). job_line j.job j.full j.ids)) h.jobs

-- ---- sessions by their numbers

pub found_none : (number : ℕ) (ss : List OpenScan) → place_of number ss ≡ None → find_session number ss ≡ None
found_none number ss h = ap (λ (o : Option ℕ). elim o as (λ x. Option OpenScan) [ None ↦ None | Some i ↦ slice_get ss i ]) h

pub found_some : (number i : ℕ) (ss : List OpenScan) (s : OpenScan) → place_of number ss ≡ Some i → slice_get ss i ≡ Some s → find_session number ss ≡ Some s
found_some number i ss s h at = ap (λ (o : Option ℕ). elim o as (λ x. Option OpenScan) [ None ↦ None | Some j ↦ slice_get ss j ]) h ∙ at

pub with_at : (number i : ℕ) (new : OpenScan) (ss : List OpenScan) → place_of number ss ≡ Some i → with_session number new ss ≡ slice_set ss i new
with_at number i new ss h = ap (λ (o : Option ℕ). elim o as (λ x. List OpenScan) [ None ↦ ss | Some j ↦ slice_set ss j new ]) h

pub without_at : (number i : ℕ) (ss : List OpenScan) → place_of number ss ≡ Some i → without_session number ss ≡ remove ss i
without_at number i ss h = ap (λ (o : Option ℕ). elim o as (λ x. List OpenScan) [ None ↦ ss | Some j ↦ remove ss j ]) h

pub without_none : (number : ℕ) (ss : List OpenScan) → place_of number ss ≡ None → without_session number ss ≡ ss
without_none number ss h = ap (λ (o : Option ℕ). elim o as (λ x. List OpenScan) [ None ↦ ss | Some j ↦ remove ss j ]) h

-- ---- the lines of sessions

module _ (k : CoreState) (ss : List OpenSession) (number : ℕ) where
  made : List OpenScan → Replayed
  made list = record { config = k.view.config; log = k.view.log; store = state_of k; sessions = list }

  -- what a text is where a session is open, and where none is
  open_text : (text : OpenScan → List ℕ) → Option OpenScan → List ℕ
  open_text text o = elim o [ None ↦ refusal_line (NoSession number) | Some s ↦ text s ]

  open_change : (change : OpenScan → OpenScan) → Option OpenScan → List OpenScan
  open_change change o = elim o [ None ↦ map open_scan ss | Some s ↦ with_session number (change s) (map open_scan ss) ]

  module _ (none : position (λ s. s.number == number) ss ≡ None) where
    nothing : find_session number (map open_scan ss) ≡ None
    nothing = found_none number (map open_scan ss) (none_open number ss none)

    pub none_text : (text : OpenScan → List ℕ) → refusal_line (NoSession number) ≡ if_open (replayed_by (record { core = k; sessions = ss })) number text
    unfolding open_text
    none_text text = sym (ap (open_text text) nothing)

    pub none_change : (change : OpenScan → OpenScan) → replayed_by (record { core = k; sessions = ss }) ≡ where_open (replayed_by (record { core = k; sessions = ss })) number change
    unfolding open_change made
    none_change change = sym (ap (λ o. made (open_change change o)) nothing)

    pub none_closed : replayed_by (record { core = k; sessions = ss }) ≡ after_session_step (replayed_by (record { core = k; sessions = ss })) number step.Close
    unfolding after_session_step made
    none_closed = sym (ap made (without_none number (map open_scan ss) (none_open number ss none)))

    pub none_opened : (range : Span) (families : Option (List (List ℕ))) (isolated : Bool)
        → opened_line number (length k.view.log) ≡ session_text (replayed_by (record { core = k; sessions = ss })) number (step.Open range families isolated)
    unfolding session_text
    none_opened range families isolated =
        sym (ap (λ (o : Option OpenScan). cond (is_some o) (refusal_line (SessionOpen number)) (opened_line number (length k.view.log))) nothing)

    pub none_pushed : (range : Span) (families : Option (List (List ℕ))) (isolated : Bool) (s : OpenSession)
        → open_scan s ≡ opened_scan (replayed_by (record { core = k; sessions = ss })) number range families isolated
        → replayed_by (record { core = k; sessions = ss ++ s ∷ [] }) ≡ after_session_step (replayed_by (record { core = k; sessions = ss })) number (step.Open range families isolated)
    unfolding after_session_step made
    none_pushed range families isolated s h =
        ap made (map-append open_scan ss (s ∷ []) ∙ ap (λ x. map open_scan ss ++ x ∷ []) h
        ∙ sym (ap (λ (o : Option OpenScan). cond (is_some o) (map open_scan ss) (map open_scan ss ++ opened_scan (replayed_by (record { core = k; sessions = ss })) number range families isolated ∷ [])) nothing))

  module _ (i : ℕ) (some : position (λ s. s.number == number) ss ≡ Some i) (s : OpenSession) (at : slice_get ss i ≡ Some s) where
    placed : place_of number (map open_scan ss) ≡ Some i
    placed = one_open number i ss some

    found : find_session number (map open_scan ss) ≡ Some (open_scan s)
    found = found_some number i (map open_scan ss) (open_scan s) placed (scan_at ss i s at)

    pub some_text : (text : OpenScan → List ℕ) → text (open_scan s) ≡ if_open (replayed_by (record { core = k; sessions = ss })) number text
    unfolding open_text
    some_text text = sym (ap (open_text text) found)

    pub some_change : (change : OpenScan → OpenScan) (t : OpenSession) → open_scan t ≡ change (open_scan s)
        → replayed_by (record { core = k; sessions = slice_set ss i t }) ≡ where_open (replayed_by (record { core = k; sessions = ss })) number change
    unfolding open_change made
    some_change change t h =
        ap made (set_scan ss i t ∙ ap (slice_set (map open_scan ss) i) h ∙ sym (with_at number i (change (open_scan s)) (map open_scan ss) placed)
        ∙ sym (ap (open_change change) found))

    pub some_closed : replayed_by (record { core = k; sessions = remove ss i }) ≡ after_session_step (replayed_by (record { core = k; sessions = ss })) number step.Close
    unfolding after_session_step made
    some_closed = ap made (removed_scan ss i ∙ sym (without_at number i (map open_scan ss) placed))

    pub some_opened : (range : Span) (families : Option (List (List ℕ))) (isolated : Bool)
        → refusal_line (SessionOpen number) ≡ session_text (replayed_by (record { core = k; sessions = ss })) number (step.Open range families isolated)
    unfolding session_text
    some_opened range families isolated =
        sym (ap (λ (o : Option OpenScan). cond (is_some o) (refusal_line (SessionOpen number)) (opened_line number (length k.view.log))) found)

    pub some_kept : (range : Span) (families : Option (List (List ℕ))) (isolated : Bool)
        → replayed_by (record { core = k; sessions = ss }) ≡ after_session_step (replayed_by (record { core = k; sessions = ss })) number (step.Open range families isolated)
    unfolding after_session_step made
    some_kept range families isolated =
        sym (ap (λ (o : Option OpenScan). made (cond (is_some o) (map open_scan ss) (map open_scan ss ++ opened_scan (replayed_by (record { core = k; sessions = ss })) number range families isolated ∷ []))) found)
