-- What a run comes to, chunk by chunk and scanner by scanner.
use Rattle.std.proofs.Common.{◌≡◌, ◌==◌, ℕ, zero, suc, ◌+◌, ◌<◌, ◌≤◌, min, true, false, List, [], ◌∷◌, ◌++◌, length, map, take, drop, Option, Some, refl, sym, ap, subst, ◌∙◌, arith}
use Rattle.std.specs.Prelude.{OnOk, Result, Ok, Err}
use Rattle.std.proofs.lemmas.List.Elements.{All-cons, All-head, All-nil, All-tail, All-take}
use Rattle.std.proofs.lemmas.List.{map-append, length-append, length-map, length-take, take-append-drop}
use Rattle.cell_key.specs.Mutations.{row_change_of}
use Rattle.cell_key.specs.declared.mutation.Mutation.{Mutation}
use Rattle.iter_config.specs.RulesOf.{rules_of}
use Rattle.iter_config.specs.Settings.{Settings}
use Rattle.tablet_model.specs.History.{RowChange}
use Rattle.tablet_model.specs.Rules.{Rules}
use Rattle.tablet_model.specs.Steps.{StepAnswer}
use Rattle.tablet_model.specs.Store.{empty_store}
use Rattle.tablet_view.specs.Extending.{Extends}
use Rattle.tablet_view.specs.Snapshot.{store_of}
use Rattle.tablet_core.specs.State.{empty_core, state_of}
use Rattle.tablet_loader.specs.Loads.{Load, after_chunk, after_chunks, after_jobs, answers_to, chunks_of, empty_load, log_with_all}
use Rattle.tablet_loader.proofs.Loads.{answers_behind, first_apart, log_behind, one_chunk}
use Rattle.atomic_table.specs.Seated.{TableId}
use Rattle.live_tablet.specs.Reading.{AreSame}
use Rattle.live_tablet.specs.Runs.{AreNumberedWalks, AreOfTablet, AreWalksOf}
use Rattle.live_tablet.specs.Scanners.{ScannerState, IsSameScanner}
use Rattle.live_tablet.specs.States.{LoaderState, load_in, rules_of_loader}
use Rattle.live_tablet.specs.declared.running.ScannerWalks.{ScannerWalks}

no_more : (a : ℕ) → a + 0 ≡ a
no_more a = omega arith

-- what follows from a fact on success
pub on_ok : {A E : Type 0} {P Q : Type 0} (r : Result A E) → (P → Q) → OnOk r P → OnOk r Q
on_ok (Ok a) f h = f h
on_ok (Err e) f h = tt

-- one scanner's walks more
pub numbered_more : (c : Settings) (log : List RowChange) (least batch n : ℕ) (ws : List ScannerWalks) (w : ScannerWalks)
    → AreNumberedWalks c log least batch n ws → AreWalksOf c log least batch (n + length ws) w → AreNumberedWalks c log least batch n (ws ++ w ∷ [])
numbered_more c log least batch n [] w all one = (subst (λ k. AreWalksOf c log least batch k w) (no_more n) one, tt)
numbered_more c log least batch n (x ∷ ws) w all one =
    (all.0, numbered_more c log least batch (n + 1) ws w all.1 (subst (λ k. AreWalksOf c log least batch k w) (next n (length ws)) one))
  where
    next : (a b : ℕ) → a + suc b ≡ a + 1 + b
    next a b = omega arith

-- scanners are of the tablet of which they were, where some of a list were written anew
pub still_of_tablet : (t : TableId) (new items : List ScannerState) → AreSame IsSameScanner new items → AreOfTablet t items
    → AreOfTablet t (take (length items) (new ++ drop (length new) items))
still_of_tablet t new [] same all = All-nil (λ (s : ScannerState). s.reader.tablet ≡ t)
still_of_tablet t [] (i ∷ is) same all = All-take (λ (s : ScannerState). s.reader.tablet ≡ t) (length (i ∷ is)) (i ∷ is) all
still_of_tablet t (n ∷ ns) (i ∷ is) same all =
    let P : ScannerState → Type 0 = λ s. s.reader.tablet ≡ t in
    All-cons P n (take (length is) (ns ++ drop (length ns) is)) ((same 0 i (omega arith)).tablet ∙ All-head P i is all)
    (still_of_tablet t ns is (λ k d l. same (suc k) d (omega (arith, l))) (All-tail P i is all))

-- walks over the same mutations are such walks
pub walks_same : (c d : Settings) (log other : List RowChange) (least from batch : ℕ) (ws : List ScannerWalks) → c ≡ d → log ≡ other → least ≡ from
    → AreNumberedWalks c log least batch 1 ws → AreNumberedWalks d other from batch 1 ws
walks_same c d log other least from batch ws e f g walks =
    subst (λ x. AreNumberedWalks x other from batch 1 ws) e (subst (λ x. AreNumberedWalks c x from batch 1 ws) f (subst (λ x. AreNumberedWalks c log x batch 1 ws) g walks))

-- a tablet that was opened now
pub opened_empty : (l : LoaderState) (config : Settings) → l.core ≡ empty_core config → l.job ≡ 0 → (load_in l ≡ empty_load) × (l.core.view.log ≡ [])
unfolding state_of store_of empty_store
opened_empty l config core job = ((λ i. record { store = state_of (core i); job = job i }), ap (λ k. k.view.log) core)

-- ---- the first chunk

pub no_first : (c : Rules) (l : Load) (n : ℕ) (first : List Mutation) → true ≡ (length first == 0) → l ≡ after_chunks c l (chunks_of n (map row_change_of first))
unfolding chunks_of
no_first c l n [] e = refl
no_first c l n (m ∷ first) e = absurd (grind arith)

pub one_first : {A E : Type 0} (r : Result A E) (c : Rules) (l l' : Load) (n : ℕ) (first : List Mutation) → false ≡ (length first == 0) → length first ≤ n
    → OnOk r (l' ≡ after_chunk c l (map row_change_of first)) → OnOk r (l' ≡ after_chunks c l (chunks_of n (map row_change_of first)))
one_first (Ok x) c l l' n [] e few h = absurd (grind arith)
one_first (Ok x) c l l' n (m ∷ first) e few h = h ∙ sym (ap (after_chunks c l) (one_chunk n (map row_change_of (m ∷ first)) (omega arith) (omega (arith, few, length-map (m ∷ first) row_change_of))))
one_first (Err x) c l l' n first e few h = tt

-- ---- the first chunk and the rest

-- a list whose first chunk is apart from the rest
pub record IsCut (n : ℕ) (all first rest : List RowChange) : Type 0 where
  pub whole : all ≡ first ++ rest
  pub few : length first ≤ n
  pub last : length first < n → length rest ≡ 0
  pub front : take n all ≡ first

cut_take : {X : Type 0} (n : ℕ) (first rest : List X) → length first ≤ n → (length first < n → length rest ≡ 0) → take n (first ++ rest) ≡ first
cut_take zero [] rest few last = refl
cut_take zero (x ∷ first) rest few last = absurd (omega (arith, few))
cut_take (suc n) [] [] few last = refl
cut_take (suc n) [] (y ∷ rest) few last = absurd (omega (arith, last (omega arith)))
cut_take (suc n) (x ∷ first) rest few last = ap (λ l. x ∷ l) (cut_take n first rest (omega (arith, few)) (λ l. last (omega (arith, l))))

pub is_cut : (n at : ℕ) (all first rest : List Mutation) → first ≡ take at all → rest ≡ drop at all → at ≡ min (length all) n
    → IsCut n (map row_change_of all) (map row_change_of first) (map row_change_of rest)
is_cut n at all first rest front back e =
    let whole : all ≡ first ++ rest = sym ((λ i. front i ++ back i) ∙ take-append-drop at all) in
    let some : length first ≡ min at (length all) = ap length front ∙ length-take at all in
    let others : length all ≡ length first + length rest = ap length whole ∙ length-append first rest in
    let few : length (map row_change_of first) ≤ n = omega (arith, e, some, length-map first row_change_of) in
    let last : length (map row_change_of first) < n → length (map row_change_of rest) ≡ 0 =
    λ l. length-map rest row_change_of ∙ omega (arith, e, some, others, l, length-map first row_change_of) in
    let parts : map row_change_of all ≡ map row_change_of first ++ map row_change_of rest = ap (λ l. map row_change_of l) whole ∙ map-append row_change_of first rest in
    record {
      whole = parts;
      few = few;
      last = last;
      front = ap (take n) parts ∙ cut_take n (map row_change_of first) (map row_change_of rest) few last;
    }

-- what a run comes to: from a tablet of no mutations over one behind the first chunk
pub record IsLoaded (old new : LoaderState) (n : ℕ) (all : List RowChange) (answers : List (Option StepAnswer)) : Type 0 where
  pub load : load_in new ≡ after_jobs (rules_of_loader old) (after_chunks (rules_of_loader old) empty_load (chunks_of n all))
  pub log : new.core.view.log ≡ log_with_all (rules_of_loader old) [] all
  pub told : answers ≡ map (λ a. Some a) (answers_to (rules_of_loader old) [] all)

pub loaded : (old mid new : LoaderState) (n : ℕ) (all first rest : List RowChange) (given some answers : List (Option StepAnswer))
    → 0 < n → IsCut n all first rest → load_in old ≡ empty_load → old.core.view.log ≡ [] → given ≡ []
    → Extends mid.core.view old.core.view
    → load_in mid ≡ after_chunks (rules_of_loader old) (load_in old) (chunks_of n first)
    → mid.core.view.log ≡ log_with_all (rules_of_loader old) old.core.view.log first
    → some ≡ given ++ map (λ a. Some a) (answers_to (rules_of_loader old) old.core.view.log first)
    → load_in new ≡ after_jobs (rules_of_loader mid) (after_chunks (rules_of_loader mid) (load_in mid) (chunks_of n rest))
    → new.core.view.log ≡ log_with_all (rules_of_loader mid) mid.core.view.log rest
    → answers ≡ some ++ map (λ a. Some a) (answers_to (rules_of_loader mid) mid.core.view.log rest)
    → IsLoaded old new n all answers
loaded old mid new n all first rest given some answers more cut none empty nothing extends load1 log1 told1 load2 log2 told2 =
    let r = rules_of_loader old in
    let rules : rules_of_loader mid ≡ r = ap rules_of extends.config in
    let load : load_in mid ≡ after_chunks r empty_load (chunks_of n first) = load1 ∙ ap (λ l. after_chunks r l (chunks_of n first)) none in
    let log : mid.core.view.log ≡ log_with_all r [] first = log1 ∙ ap (λ h. log_with_all r h first) empty in
    let told : some ≡ map (λ a. Some a) (answers_to r [] first) = told1 ∙ (λ i. nothing i ++ map (λ a. Some a) (answers_to r (empty i) first)) in
    record {
      load = load2
          ∙ (λ i. after_jobs (rules i) (after_chunks (rules i) (load i) (chunks_of n rest)))
          ∙ ap (after_jobs r) (first_apart r empty_load n first rest more cut.few cut.last ∙ ap (λ x. after_chunks r empty_load (chunks_of n x)) (sym cut.whole));
      log = log2 ∙ (λ i. log_with_all (rules i) (log i) rest) ∙ sym (log_behind r [] first rest) ∙ ap (log_with_all r []) (sym cut.whole);
      told = told2
          ∙ (λ i. told i ++ map (λ a. Some a) (answers_to (rules i) (log i) rest))
          ∙ sym (map-append (λ a. Some a) (answers_to r [] first) (answers_to r (log_with_all r [] first) rest))
          ∙ ap (λ l. map (λ a. Some a) l) (sym (answers_behind r [] first rest))
          ∙ ap (λ x. map (λ a. Some a) (answers_to r [] x)) (sym cut.whole);
    }
