-- Loads, step by step.
use Rattle.std.proofs.Common.{◌≡◌, ℕ, zero, suc, ◌+◌, ◌<◌, ◌≤◌, cond, eqb, min, List, [], ◌∷◌, ◌++◌, length, map, take, drop, get_or, Option, Some, is_some, option_map, unwrap_or, refl, sym, ap, subst, ◌∙◌, append_assoc, append-nil, arith}
use Rattle.std.specs.List.{AllByRecursion}
use Rattle.std.proofs.lemmas.Bool.{lt-ltb}
use Rattle.std.proofs.lemmas.List.{length-append, length-drop, length-map, map-append}
use Rattle.cell_key.specs.FileNumbers.{AreAscending, with_number, with_numbers}
use Rattle.cell_key.specs.Mutations.{row_change_of}
use Rattle.cell_key.specs.declared.mutation.Mutation.{Mutation}
use Rattle.compactor.specs.declared.file_sets.FileCount.{FileCount}
use Rattle.compactor.specs.Plans.{choice}
use Rattle.iter_config.specs.RulesOf.{rules_of}
use Rattle.iter_config.specs.Settings.{Settings}
use Rattle.tablet_model.specs.History.{RowChange}
use Rattle.tablet_model.specs.Ingest.{ingest}
use Rattle.tablet_model.specs.Rules.{Rules}
use Rattle.tablet_model.specs.Store.{Store, empty_store}
use Rattle.tablet_model.specs.Steps.{StepAnswer, answer_to_step, apply, applied, freeze, log_after, refuse, refused, step_answer, store_after}
use Rattle.tablet_view.specs.Snapshot.{store_of}
use Rattle.tablet_core.specs.State.{CoreState, IsStep, empty_core, state_of}
use Rattle.tablet_core.specs.Status.{count_of}
use Rattle.tablet_loader.specs.Loads.{Load, after_begin, after_changes, after_chunk, after_chunks, after_start, after_step, answer_to, answers_to, chunks_of, empty_load, files_chosen, log_with, log_with_all, pieces}
use Rattle.tablet_loader.specs.States.{load_of, rules_in}
use Rattle.tablet_loader.specs.declared.loader.Loader.{Loader}

-- ---- a list of mutations

-- the changes of a mutation, and those of the later ones
pub changes_from : (ms : List Mutation) (i : ℕ) (d : Mutation) → i < length ms → drop i (map row_change_of ms) ≡ row_change_of (get_or ms i d) ∷ drop (i + 1) (map row_change_of ms)
changes_from [] i d l = absurd (omega (arith, l))
changes_from (m ∷ ms) zero d l = refl
changes_from (m ∷ ms) (suc i) d l =
    let next : suc i + 1 ≡ suc (i + 1) = omega arith in
    rw next (changes_from ms i d (omega (arith, l)))

-- ---- logs and answers

-- the log behind a step that a mutation comes in by
pub log_is : (c : Rules) (s : Store) (h : List RowChange) (m : RowChange) → s.count ≡ length h → log_after c s h (apply m) ≡ log_with c h m
unfolding log_after log_with
log_is c s h m n = ap (λ k. cond (is_some (ingest c k m)) h (h ++ m ∷ [])) n

-- the answer to it
pub answer_is : (c : Rules) (s : Store) (h : List RowChange) (m : RowChange) → s.count ≡ length h → answer_to_step c s (apply m) ≡ answer_to c h m
unfolding answer_to_step answer_to refuse step_answer
answer_is c s h m n = ap (λ k. unwrap_or (option_map refused (ingest c k m)) (applied (k + 1))) n

-- logs and answers behind two lists, one behind the other
pub log_behind : (c : Rules) (h xs ys : List RowChange) → log_with_all c h (xs ++ ys) ≡ log_with_all c (log_with_all c h xs) ys
log_behind c h [] ys = refl
log_behind c h (m ∷ xs) ys = log_behind c (log_with c h m) xs ys

pub answers_behind : (c : Rules) (h xs ys : List RowChange) → answers_to c h (xs ++ ys) ≡ answers_to c h xs ++ answers_to c (log_with_all c h xs) ys
answers_behind c h [] ys = refl
answers_behind c h (m ∷ xs) ys = ap (λ l. answer_to c h m ∷ l) (answers_behind c (log_with c h m) xs ys)

-- ---- chunks

module _ {X : Type 0} (n : ℕ) (some : 0 < n) where
  fewer : (x : X) (xs : List X) → length (drop n (x ∷ xs)) ≤ length xs
  fewer x xs = omega (arith, some, length-drop n (x ∷ xs))

  -- it does not matter how many more there may be
  enough : (j k : ℕ) (xs : List X) → length xs ≤ j → length xs ≤ k → pieces j n xs ≡ pieces k n xs
  enough zero zero xs a b = refl
  enough zero (suc k) [] a b = refl
  enough zero (suc k) (x ∷ xs) a b = absurd (omega (arith, a))
  enough (suc j) zero [] a b = refl
  enough (suc j) zero (x ∷ xs) a b = absurd (omega (arith, b))
  enough (suc j) (suc k) [] a b = refl
  enough (suc j) (suc k) (x ∷ xs) a b = ap (λ l. take n (x ∷ xs) ∷ l) (enough j k (drop n (x ∷ xs)) (omega (arith, a, fewer x xs)) (omega (arith, b, fewer x xs)))

  -- the first chunk, and those of what is left
  pub next_chunk : (xs : List X) → 0 < length xs → chunks_of n xs ≡ take n xs ∷ chunks_of n (drop n xs)
  unfolding chunks_of
  next_chunk [] l = absurd (omega (arith, l))
  next_chunk (x ∷ xs) l = ap (λ l. take n (x ∷ xs) ∷ l) (enough (length xs) (length (drop n (x ∷ xs))) (drop n (x ∷ xs)) (fewer x xs) (omega arith))

-- ---- mutation by mutation

pub load_next : (c : Rules) (a b all : Load) (m : RowChange) (list rest : List RowChange) → b ≡ after_step c a (apply m) → list ≡ m ∷ rest → after_changes c a list ≡ all → after_changes c b rest ≡ all
load_next c a b all m list rest s d h = ap (λ l. after_changes c l rest) s ∙ ap (after_changes c a) (sym d) ∙ h

pub log_next : (c : Rules) (h g all : List RowChange) (m : RowChange) (list rest : List RowChange) → g ≡ log_with c h m → list ≡ m ∷ rest → log_with_all c h list ≡ all → log_with_all c g rest ≡ all
log_next c h g all m list rest s d e = ap (λ l. log_with_all c l rest) s ∙ ap (log_with_all c h) (sym d) ∙ e

-- the answers that are there, and those that come
abbrev pub answers_with : Rules → List (Option StepAnswer) → List RowChange → List RowChange → List (Option StepAnswer)
answers_with c given h list = given ++ map (λ a. Some a) (answers_to c h list)

pub answers_next : (c : Rules) (given all : List (Option StepAnswer)) (a : Option StepAnswer) (h g : List RowChange) (m : RowChange) (list rest : List RowChange)
    → g ≡ log_with c h m → a ≡ Some (answer_to c h m) → list ≡ m ∷ rest → answers_with c given h list ≡ all → answers_with c (given ++ a ∷ []) g rest ≡ all
answers_next c given all a h g m list rest s is d e =
    (λ i. answers_with c (given ++ is i ∷ []) (s i) rest)
    ∙ append_assoc given (Some (answer_to c h m) ∷ []) (map (λ a. Some a) (answers_to c (log_with c h m) rest))
    ∙ ap (answers_with c given h) (sym d)
    ∙ e

-- ---- the numbers of a job's files

before_all : (i : ℕ) (front back : List ℕ) → AllByRecursion (λ j. i < j) (front ++ back) → AllByRecursion (λ j. i < j) front
before_all i [] back h = tt
before_all i (x ∷ front) back h = (h.0, before_all i front back h.1)

front_ascends : (front back : List ℕ) → AreAscending (front ++ back) → AreAscending front
front_ascends [] back h = tt
front_ascends (x ∷ front) back h = (before_all x front back h.0, front_ascends front back h.1)

at_end : (front : List ℕ) (id : ℕ) → AreAscending (front ++ id ∷ []) → with_number id front ≡ front ++ id ∷ []
unfolding with_number
at_end [] id h = refl
at_end (x ∷ front) id h =
    ap (λ b. cond b (x ∷ with_number id front) (cond (eqb x id) (x ∷ front) (id ∷ x ∷ front))) (lt-ltb x id (last front h.0))
    ∙ ap (λ l. x ∷ l) (at_end front id h.1)
  where
    last : (front : List ℕ) → AllByRecursion (λ j. x < j) (front ++ id ∷ []) → x < id
    last [] h = h.0
    last (y ∷ front) h = last front h.1

put_behind : (ids front : List ℕ) → AreAscending (front ++ ids) → with_numbers ids front ≡ front ++ ids
put_behind [] front h = sym (append-nil front)
put_behind (id ∷ ids) front h =
    let whole : (front ++ id ∷ []) ++ ids ≡ front ++ id ∷ ids = append_assoc front (id ∷ []) ids in
    let up : AreAscending ((front ++ id ∷ []) ++ ids) = subst AreAscending (sym whole) h in
    ap (with_numbers ids) (at_end front id (front_ascends (front ++ id ∷ []) ids up))
    ∙ put_behind ids (front ++ id ∷ []) up
    ∙ whole

-- numbers that ascend are those that are put one after the other
pub same_numbers : (ids : List ℕ) → AreAscending ids → with_numbers ids [] ≡ ids
same_numbers ids h = put_behind ids [] h

-- ---- the jobs that begin

pub jobs_begun : (k : Loader) (l : CoreState) (files : Option (List ℕ)) (counts : List FileCount) → IsStep freeze k.core l → counts ≡ map count_of l.view.files → files ≡ choice counts
    → after_start (rules_of l.view.config) (record { store = state_of l; job = k.job }) files ≡ after_begin (rules_in k) (load_of k)
unfolding after_begin state_of store_of
jobs_begun k l files counts s n f =
    let chosen : files ≡ files_chosen (store_after (rules_in k) (state_of k.core) freeze) = f ∙ ap choice (n ∙ ap (λ st. map count_of st.files) s.store) in
    λ i. after_start (rules_of (s.config i)) (record { store = s.store i; job = k.job }) (chosen i)

-- ---- chunk by chunk

split_at : {X : Type 0} (n : ℕ) (ys zs : List X) → length ys ≤ n → (length ys < n → length zs ≡ 0) → (take n (ys ++ zs) ≡ ys) × (drop n (ys ++ zs) ≡ zs)
split_at zero [] zs a b = (refl, refl)
split_at zero (y ∷ ys) zs a b = absurd (omega (arith, a))
split_at (suc n) [] [] a b = (refl, refl)
split_at (suc n) [] (z ∷ zs) a b = absurd (omega (arith, b (omega arith)))
split_at (suc n) (y ∷ ys) zs a b =
    let parts = split_at n ys zs (omega (arith, a)) (λ l. b (omega (arith, l))) in
    (ap (λ l. y ∷ l) parts.0, parts.1)

-- a chunk of so many, or of all that is left
chunk_first : (n : ℕ) (list chunk later : List RowChange) → 0 < n → list ≡ chunk ++ later → 0 < length list → length chunk ≤ n → (length chunk < n → length later ≡ 0)
    → chunks_of n list ≡ chunk ∷ chunks_of n later
chunk_first n list chunk later some d l few last =
    let parts = split_at n chunk later few last in
    next_chunk n some list l
    ∙ (λ i. take n (d i) ∷ chunks_of n (drop n (d i)))
    ∙ (λ i. parts.0 i ∷ chunks_of n (parts.1 i))

-- a list that is no longer than a chunk is one, unless it is empty
pub one_chunk : (n : ℕ) (list : List RowChange) → 0 < length list → length list ≤ n → chunks_of n list ≡ list ∷ []
unfolding chunks_of
one_chunk n list some few = chunk_first n list list [] (omega (arith, some, few)) (sym (append-nil list)) some few (λ l. refl)

-- the first chunk may come in apart from the others
pub first_apart : (c : Rules) (l : Load) (n : ℕ) (first rest : List RowChange) → 0 < n → length first ≤ n → (length first < n → length rest ≡ 0)
    → after_chunks c (after_chunks c l (chunks_of n first)) (chunks_of n rest) ≡ after_chunks c l (chunks_of n (first ++ rest))
unfolding chunks_of
first_apart c l n [] rest some few last = refl
first_apart c l n (m ∷ first) rest some few last =
    ap (λ chunks. after_chunks c (after_chunks c l chunks) (chunks_of n rest)) (one_chunk n (m ∷ first) (omega arith) few)
    ∙ sym (ap (after_chunks c l) (chunk_first n ((m ∷ first) ++ rest) (m ∷ first) rest some refl (omega arith) few last))

load_more : (c : Rules) (a b all : Load) (chunk : List RowChange) (list rest : List (List RowChange)) → b ≡ after_chunk c a chunk → list ≡ chunk ∷ rest → after_chunks c a list ≡ all → after_chunks c b rest ≡ all
load_more c a b all chunk list rest s d h = ap (λ l. after_chunks c l rest) s ∙ ap (after_chunks c a) (sym d) ∙ h

log_more : (c : Rules) (h g all chunk list later : List RowChange) → g ≡ log_with_all c h chunk → list ≡ chunk ++ later → log_with_all c h list ≡ all → log_with_all c g later ≡ all
log_more c h g all chunk list later s d e = ap (λ l. log_with_all c l later) s ∙ sym (log_behind c h chunk later) ∙ ap (log_with_all c h) (sym d) ∙ e

answers_more : (c : Rules) (given more all : List (Option StepAnswer)) (h g chunk list later : List RowChange)
    → g ≡ log_with_all c h chunk → more ≡ answers_with c given h chunk → list ≡ chunk ++ later → answers_with c given h list ≡ all → answers_with c more g later ≡ all
answers_more c given more all h g chunk list later s m d e =
    (λ i. answers_with c (m i) (s i) later)
    ∙ append_assoc given (map (λ a. Some a) (answers_to c h chunk)) (map (λ a. Some a) (answers_to c (log_with_all c h chunk) later))
    ∙ ap (λ l. given ++ l) (sym (map-append (λ a. Some a) (answers_to c h chunk) (answers_to c (log_with_all c h chunk) later)))
    ∙ ap (λ l. given ++ map (λ a. Some a) l) (sym (answers_behind c h chunk later))
    ∙ ap (answers_with c given h) (sym d)
    ∙ e

-- the load of no mutations
pub none_loaded : (l : Loader) (config : Settings) → l.core ≡ empty_core config → l.job ≡ 0 → load_of l ≡ empty_load
unfolding state_of store_of empty_store
none_loaded l config core job = λ i. record { store = state_of (core i); job = job i }

-- a chunk that comes off what is left
chunk_off : (n size : ℕ) (rest x later : List Mutation) → 0 < n → size ≡ n → rest ≡ x ++ later → length x ≡ min size (length rest) → 0 < length rest
    → chunks_of n (map row_change_of rest) ≡ map row_change_of x ∷ chunks_of n (map row_change_of later)
chunk_off n size rest x later some s d few l =
    let whole : length rest ≡ length x + length later = ap length d ∙ length-append x later in
    let less : length x ≤ n = omega (arith, few, s) in
    let last : length x < n → length later ≡ 0 = λ k. omega (arith, few, s, whole, k) in
    chunk_first n (map row_change_of rest) (map row_change_of x) (map row_change_of later) some
    (ap (λ l. map row_change_of l) d ∙ map-append row_change_of x later)
    (omega (arith, l, length-map rest row_change_of))
    (omega (arith, less, length-map x row_change_of))
    (λ k. length-map later row_change_of ∙ last (omega (arith, k, length-map x row_change_of)))

-- nothing is left at the end
all_loaded : (c : Rules) (n : ℕ) (l : Load) (rest : List Mutation) → length rest ≡ 0 → after_chunks c l (chunks_of n (map row_change_of rest)) ≡ l
unfolding chunks_of
all_loaded c n l [] h = refl
all_loaded c n l (m ∷ rest) h = absurd (omega (arith, h))

all_logged : (c : Rules) (h : List RowChange) (rest : List Mutation) → length rest ≡ 0 → log_with_all c h (map row_change_of rest) ≡ h
all_logged c h [] e = refl
all_logged c h (m ∷ rest) e = absurd (omega (arith, e))

all_answered : (c : Rules) (given : List (Option StepAnswer)) (h : List RowChange) (rest : List Mutation) → length rest ≡ 0 → answers_with c given h (map row_change_of rest) ≡ given
all_answered c given h [] e = append-nil given
all_answered c given h (m ∷ rest) e = absurd (omega (arith, e))

-- behind the mutations that are left a load is another one, with such a log and such answers
pub record WillBe (c : Rules) (n : ℕ) (l : Load) (h : List RowChange) (given : List (Option StepAnswer)) (rest : List Mutation) (load : Load) (log : List RowChange) (answers : List (Option StepAnswer)) : Type 0 where
  pub load_is : after_chunks c l (chunks_of n (map row_change_of rest)) ≡ load
  pub log_is_so : log_with_all c h (map row_change_of rest) ≡ log
  pub answers_are : answers_with c given h (map row_change_of rest) ≡ answers

-- a chunk more came in
pub will_be_still : (c : Rules) (n size : ℕ) (l l' : Load) (h h' : List RowChange) (given given' : List (Option StepAnswer)) (rest x later : List Mutation) (load : Load) (log : List RowChange) (answers : List (Option StepAnswer))
    → 0 < n → size ≡ n → rest ≡ x ++ later → length x ≡ min size (length rest) → 0 < length rest
    → l' ≡ after_chunk c l (map row_change_of x) → h' ≡ log_with_all c h (map row_change_of x) → given' ≡ answers_with c given h (map row_change_of x)
    → WillBe c n l h given rest load log answers → WillBe c n l' h' given' later load log answers
will_be_still c n size l l' h h' given given' rest x later load log answers some e d few more loads logs tells w =
    let first = chunk_off n size rest x later some e d few more in
    let left : map row_change_of rest ≡ map row_change_of x ++ map row_change_of later = ap (λ l. map row_change_of l) d ∙ map-append row_change_of x later in
    record {
      load_is = load_more c l l' load (map row_change_of x) (chunks_of n (map row_change_of rest)) (chunks_of n (map row_change_of later)) loads first w.load_is;
      log_is_so = log_more c h h' log (map row_change_of x) (map row_change_of rest) (map row_change_of later) logs left w.log_is_so;
      answers_are = answers_more c given given' answers h h' (map row_change_of x) (map row_change_of rest) (map row_change_of later) logs tells left w.answers_are;
    }

-- all came in
pub is_now : (c : Rules) (n : ℕ) (l : Load) (h : List RowChange) (given : List (Option StepAnswer)) (rest : List Mutation) (load : Load) (log : List RowChange) (answers : List (Option StepAnswer))
    → length rest ≡ 0 → WillBe c n l h given rest load log answers → (l ≡ load) × (h ≡ log) × (given ≡ answers)
is_now c n l h given rest load log answers e w = (
  sym (all_loaded c n l rest e) ∙ w.load_is,
  sym (all_logged c h rest e) ∙ w.log_is_so,
  sym (all_answered c given h rest e) ∙ w.answers_are,
)
