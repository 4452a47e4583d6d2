-- The checks of mutations under the rules of a configuration.
use Rattle.std.proofs.Common.{◌≡◌, ℕ, Bool, true, false, not, ◌&&◌, ◌||◌, cond, List, [], ◌∷◌, is_some, unwrap_or, refl, sym, ap, ◌∙◌}
use Rattle.std.proofs.Math.Bool.{and_assoc, not-not}
use Rattle.std.specs.Prelude.{pos, filter}
use Rattle.tablet_model.specs.Cell.{Cell}
use Rattle.tablet_model.specs.History.{Change, RowChange, entry_of, is_delete}
use Rattle.tablet_model.specs.Ingest.{is_mistimed, is_read, is_refused_delete, is_unread}
use Rattle.tablet_model.specs.Stages.{Stage}
use Rattle.cell_key.specs.Listed.{column_listed}
use Rattle.iter_config.specs.Columns.{all_read, is_timed, kind_reads, reads_value, refuses_delete}
use Rattle.iter_config.specs.Rules.{in_base, is_combiner}
use Rattle.iter_config.specs.RulesOf.{rules_of, scans_alone}
use Rattle.iter_config.specs.Settings.{Settings}
use Rattle.iter_config.specs.Stages.{stage_list, stage_of}
use Rattle.iter_config.specs.declared.iter_spec.IterSpec.{IterSpec}
use Rattle.iter_config.specs.declared.iter_spec.Kind.{Kind}
use Rattle.iter_config.specs.declared.iter_spec.Kind.TheVariants.{Filter, Versions, Combine, WholeRow, Intersecting}
use Rattle.iter_config.proofs.FilterStages.{filter_is}

pub refused_delete : (c : Settings) (k : ℕ) (m : RowChange) (u : Change)
    → is_refused_delete (rules_of c) k m u ≡ (is_delete u.value && refuses_delete c u.family u.qualifier)
unfolding is_refused_delete rules_of
refused_delete c k m u = ap (λ b. is_delete u.value && b) (not-not (refuses_delete c u.family u.qualifier))

pub mistimed : (c : Settings) (k : ℕ) (m : RowChange) (u : Change)
    → is_mistimed (rules_of c) k m u ≡ (is_some u.time && (is_delete u.value || not (is_timed c u.family)) || not (is_some u.time) && (is_some u.value && is_timed c u.family))
unfolding is_mistimed rules_of
mistimed c k m u =
    ap (λ b. is_some u.time && (is_delete u.value || not (is_timed c u.family)) || not (is_some u.time) && (is_some u.value && b)) (not-not (is_timed c u.family))

-- a stage in front reads what its iterator reads: a combiner the values of its columns, any other one all
front_reads : (e : Cell) (kind : Kind) (ss : List Stage) → is_read (stage_of kind ∷ ss) e ≡ (kind_reads e.key.family e.key.qualifier e.value kind && is_read ss e)
unfolding is_read column_listed
front_reads e (Filter predicate negate) ss = filter_is (λ s. is_read (s ∷ ss) e ≡ is_read ss e) predicate negate (λ k. refl) (λ k. refl)
front_reads e (Versions max) ss = refl
front_reads e (Combine op columns encoding deletes) ss = refl
front_reads e WholeRow ss = refl
front_reads e (Intersecting terms without) ss = refl

others_read : (family qualifier value : List ℕ) (kind : Kind) → is_combiner kind ≡ false → kind_reads family qualifier value kind ≡ true
others_read family qualifier value (Filter predicate negate) h = refl
others_read family qualifier value (Versions max) h = refl
others_read family qualifier value (Combine op columns encoding deletes) h = absurd (let k : true ≡ false = h in cc)
others_read family qualifier value WholeRow h = refl
others_read family qualifier value (Intersecting terms without) h = refl

and_swap : (a b c : Bool) → (a && (b && c)) ≡ (b && (a && c))
and_swap true true c = refl
and_swap true false c = refl
and_swap false true c = refl
and_swap false false c = refl

-- the stages of compactions and the other combiners read what the configuration reads
pub read_by_all : (e : Cell) (specs : List IterSpec)
    → (is_read (stage_list (filter in_base specs)) e && is_read (stage_list (filter (λ s. is_combiner s.kind) (scans_alone specs))) e) ≡ all_read specs e.key.family e.key.qualifier e.value
unfolding is_read all_read
read_by_all e [] = refl
read_by_all e (s ∷ ss) =
    let reads : Bool = kind_reads e.key.family e.key.qualifier e.value s.kind in
    let base : List IterSpec = filter in_base ss in
    let alone : List IterSpec = scans_alone ss in
    let later : List IterSpec = filter (λ t. is_combiner t.kind) alone in
    let combiner : (c : Bool) → is_combiner s.kind ≡ c → is_read (stage_list (cond c (s ∷ later) later)) e ≡ (reads && is_read (stage_list later) e) = λ c. elim c as (λ c. is_combiner s.kind ≡ c → is_read (stage_list (cond c (s ∷ later) later)) e ≡ (reads && is_read (stage_list later) e)) [
      | true ↦ λ h. front_reads e s.kind (stage_list later)
      | false ↦ λ h. sym (ap (λ b. b && is_read (stage_list later) e) (others_read e.key.family e.key.qualifier e.value s.kind h))
    ] in
    let go : (b : Bool) → (is_read (stage_list (cond b (s ∷ base) base)) e && is_read (stage_list (filter (λ t. is_combiner t.kind) (cond (not b) (s ∷ alone) alone))) e) ≡ (reads && (is_read (stage_list base) e && is_read (stage_list later) e)) = λ b. elim b as (λ b. (is_read (stage_list (cond b (s ∷ base) base)) e && is_read (stage_list (filter (λ t. is_combiner t.kind) (cond (not b) (s ∷ alone) alone))) e) ≡ (reads && (is_read (stage_list base) e && is_read (stage_list later) e))) [
      | true ↦ ap (λ b. b && is_read (stage_list later) e) (front_reads e s.kind (stage_list base)) ∙ and_assoc reads (is_read (stage_list base) e) (is_read (stage_list later) e)
      | false ↦ ap (λ b. is_read (stage_list base) e && b) (combiner (is_combiner s.kind) refl) ∙ and_swap (is_read (stage_list base) e) reads (is_read (stage_list later) e)
    ] in
    go (in_base s) ∙ ap (λ b. reads && b) (read_by_all e ss)

pub unread : (c : Settings) (k : ℕ) (m : RowChange) (u : Change)
    → is_unread (rules_of c) k m u ≡ (is_some u.value && not (reads_value c u.family u.qualifier (unwrap_or u.value [])))
unfolding is_unread rules_of
unread c k m u = ap (λ b. is_some u.value && not b) (read_by_all (entry_of m.row (pos k) u) c.iterators)
