-- What `pack` makes of a view into which mutations alone came.
use Rattle.std.proofs.Common.{◌≡◌, ◌+◌, pos, cond, List, [], ◌∷◌, ◌++◌, length, Option, Some, None, is_some, option_map, unwrap_or, refl, sym, ap, subst, ◌∙◌}
use Rattle.std.specs.List.{AllByRecursion, flat_map}
use Rattle.tablet_model.specs.Cell.{Cell}
use Rattle.tablet_model.specs.Families.{in_families}
use Rattle.tablet_model.specs.History.{RowChange, entries_of, history_entries}
use Rattle.tablet_model.specs.Ingest.{Refusal, ingest}
use Rattle.tablet_model.specs.Order.{above}
use Rattle.tablet_model.specs.Rules.{AreStorable, IsStorable, Rules}
use Rattle.tablet_model.specs.Sorted.{sorted}
use Rattle.tablet_model.specs.Steps.{apply, log_after, refuse, refused, step, store_after}
use Rattle.tablet_model.specs.Store.{Store, all_of, cells_of, frozen_of, parts_of}
use Rattle.tablet_model.specs.Sum.{sum_of}
use Rattle.tablet_model.proofs.Histories.{history_ascends, history_grows}
use Rattle.tablet_model.proofs.Merges.{all_sorted}
use Rattle.tablet_model.proofs.Orders.{above_exact}
use Rattle.tablet_model.proofs.Sums.{sorted_same}
use Rattle.iter_config.specs.RulesOf.{rules_of}
use Rattle.compactor.specs.FileValues.{HasShortValue}
use Rattle.compactor.proofs.Stored.{usage_short}
use Rattle.iter_stack.specs.Usages.{usage_cells}
use Rattle.iter_stack.specs.declared.usage.Usage.TheVariants.{Scan, Pack}
use Rattle.tablet_view.specs.Snapshot.{IsStanding, Snapshot, entries_in, store_of}
use Rattle.tablet_steps.specs.ModelSteps.{model_answer_of}
use Rattle.tablet_steps.specs.declared.answer.Answer.{Answer}
use Rattle.tablet_steps.specs.declared.answer.Answer.TheVariants as answer
use Rattle.tablet_core.specs.State.{Answers, CoreState, IsStep, state_of}
use Rattle.tablet_replay.specs.Packing.{IsInMemory, history_with, pack_entries}

-- ---- a mutation comes in

-- the store behind a mutation, by why it stays out
abbrev with_change : Store → RowChange → Option Refusal → Store
with_change s m (Some r) = s
with_change s m None = record s { count = s.count + 1; memory = sum_of s.memory (entries_of (pos (s.count + 1)) m) }

stepped_is : (c : Rules) (s : Store) (m : RowChange) (o : Option Refusal) → ingest c s.count m ≡ o → store_after c s (apply m) ≡ with_change s m o
unfolding store_after step refuse
stepped_is c s m o h = ap (λ o. cond (is_some (option_map refused o)) s (record s { count = s.count + 1; memory = sum_of s.memory (entries_of (pos (s.count + 1)) m) })) h ∙ go o
  where
    go : (o : Option Refusal) → cond (is_some (option_map refused o)) s (record s { count = s.count + 1; memory = sum_of s.memory (entries_of (pos (s.count + 1)) m) }) ≡ with_change s m o
    go (Some r) = refl
    go None = refl

-- a step that finds memory is made or refused
pub taken_in : (k l : CoreState) (m : RowChange) (a : Answer) → (a ≡ answer.NoMemory → ⊥) → Answers (apply m) k l (model_answer_of a) → IsStep (apply m) k l
taken_in k l m (answer.Applied number) some h = h.1
taken_in k l m (answer.Frozen count) some h = h.1
taken_in k l m (answer.Flushed file count) some h = h.1
taken_in k l m (answer.Started job full) some h = h.1
taken_in k l m (answer.Finished job file count) some h = h.1
taken_in k l m (answer.Refused refusal) some h = h.1
taken_in k l m answer.NoMemory some h = absurd (some refl)

-- the log behind it
pub log_behind : (k l : CoreState) (m : RowChange) → IsStep (apply m) k l → l.view.log ≡ history_with k.view.config k.view.log m
unfolding state_of store_of log_after
log_behind k l m s = s.log

-- all entries are in memory still
pub memory_behind : (k l : CoreState) (m : RowChange) → IsStep (apply m) k l → IsInMemory k.view → IsInMemory l.view
unfolding state_of store_of log_after
memory_behind k l m s (files, frozen, memory) = go (ingest c (length k.view.log) m) refl
  where
    c : Rules
    c = rules_of k.view.config

    go : (o : Option Refusal) → ingest c (length k.view.log) m ≡ o → IsInMemory l.view
    go o h =
        let is = s.store ∙ stepped_is c (state_of k) m o h in
        (ap (λ x. x.files) is ∙ kept_files o ∙ files, ap (λ x. x.frozen) is ∙ kept_frozen o ∙ frozen, ap (λ x. x.memory) is ∙ grown o h)
      where
        kept_files : (o : Option Refusal) → (with_change (state_of k) m o).files ≡ k.view.files
        kept_files (Some r) = refl
        kept_files None = refl

        kept_frozen : (o : Option Refusal) → (with_change (state_of k) m o).frozen ≡ k.view.frozen
        kept_frozen (Some r) = refl
        kept_frozen None = refl

        log_is : (o : Option Refusal) → ingest c (length k.view.log) m ≡ o → l.view.log ≡ cond (is_some o) k.view.log (k.view.log ++ m ∷ [])
        log_is o h = s.log ∙ ap (λ o. cond (is_some o) k.view.log (k.view.log ++ m ∷ [])) h

        grown : (o : Option Refusal) → ingest c (length k.view.log) m ≡ o → (with_change (state_of k) m o).memory ≡ history_entries l.view.log
        grown (Some r) h = memory ∙ ap history_entries (sym (log_is (Some r) h))
        grown None h =
            ap (λ l. sum_of l (entries_of (pos (length k.view.log + 1)) m)) memory
            ∙ sym (history_grows k.view.log m) ∙ ap history_entries (sym (log_is None h))

-- no mutations have no entries
pub none_in : [] ≡ history_entries []
unfolding history_entries sorted
none_in = refl

-- ---- the file

-- the entries of a view that has them in memory
pub entries_are : (v : Snapshot) → IsInMemory v → entries_in v ≡ history_entries v.log
unfolding all_of parts_of cells_of frozen_of store_of
entries_are v (files, frozen, memory) =
    (λ i. sorted above (flat_map (λ f. f.cells) (files i) ++ (unwrap_or (frozen i) [] ++ memory i)))
    ∙ sorted_same above above_exact (history_entries v.log) (history_ascends v.log)

all_in : (list : List Cell) → in_families None list ≡ list
all_in [] = refl
all_in (e ∷ es) = ap (λ l. e ∷ l) (all_in es)

-- what a source over it has
pub source_has : (v : Snapshot) → IsInMemory v → in_families None (entries_in v) ≡ history_entries v.log
source_has v m = all_in (entries_in v) ∙ entries_are v m

storable : (v : Snapshot) → IsStanding v → AreStorable (rules_of v.config) (entries_in v)
unfolding all_of store_of
storable v s = all_sorted above above_exact (IsStorable (rules_of v.config)) (parts_of (store_of v 0 [])) s.parts.entries

-- a file takes what is made of it
pub packed_short : (v : Snapshot) (list : List Cell) → IsStanding v → list ≡ in_families None (entries_in v) → AllByRecursion HasShortValue (usage_cells v.config Pack list)
packed_short v list s h =
    subst (λ l. AllByRecursion HasShortValue (usage_cells v.config Pack l)) (sym (h ∙ all_in (entries_in v)))
    (usage_short v.config s.config Pack (λ e. absurd (let no : Pack ≡ Scan = e in cc)) (entries_in v) (storable v s))

pub packed_is : (v : Snapshot) (list : List Cell) → IsInMemory v → list ≡ in_families None (entries_in v) → usage_cells v.config Pack list ≡ pack_entries v.config v.log
unfolding usage_cells
packed_is v list m h = ap (usage_cells v.config Pack) (h ∙ source_has v m)
