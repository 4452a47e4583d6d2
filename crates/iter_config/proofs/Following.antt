-- The stages of a configuration's compactions are accepted.
use Rattle.std.proofs.Common.{◌≡◌, ◌≤◌, Bool, true, false, not, ◌&&◌, ◌||◌, cond, List, [], ◌∷◌, Some, refl, sym, ap, ◌∙◌, arith}
use Rattle.std.specs.Prelude.{filter, ⊤}
use Rattle.std.specs.List.{AllByRecursion, IsDistinct, list_any}
use Rattle.cell_key.specs.Listed.{column_listed, listed_of_columns}
use Rattle.number_values.proofs.ArrayLaws.{values_lawful, values_short}
use Rattle.tablet_model.proofs.OneColumn.{columns_tie}
use Rattle.tablet_model.proofs.Orders.{exact_columns}
use Rattle.tablet_model.proofs.Sums.{all_filter}
use Rattle.tablet_model.specs.Accepted.{AreAccepted, IsBeside, IsColumnFilter, IsNoCombiner, IsOfColumns, IsWellMade, MayFollow}
use Rattle.tablet_model.specs.Cell.{Cell, Column, column_of}
use Rattle.tablet_model.specs.Families.{has_family}
use Rattle.tablet_model.specs.Order.{same_column}
use Rattle.tablet_model.specs.Rules.{IsApartFrom, IsShort}
use Rattle.tablet_model.specs.Stages.{Stage, by_cell, by_column, combine, intersect, newest, rows}
use Rattle.iter_config.specs.Limits.{IsLimited}
use Rattle.iter_config.specs.Order.{NoneClashes}
use Rattle.iter_config.specs.Predicates.{filter_stage, is_from, is_of_column, is_up_to, keeps}
use Rattle.iter_config.specs.Rules.{in_base, is_combiner, is_disordered, is_scan_only, leaves_scans, listed_columns, names_meet, out_of_order, shares_column}
use Rattle.iter_config.specs.RulesOf.{scans_alone}
use Rattle.iter_config.specs.Stages.{stage_of, stage_list}
use Rattle.iter_config.specs.declared.iter_spec.IterSpec.{IterSpec}
use Rattle.iter_config.specs.declared.iter_spec.Kind.{Kind}
use Rattle.iter_config.specs.declared.iter_spec.Kind.TheVariants.{Filter, Versions, Combine, WholeRow, Intersecting}
use Rattle.iter_config.specs.declared.predicate.Predicate.{Predicate}
use Rattle.iter_config.specs.declared.predicate.Predicate.TheVariants.{Family, QualifierSlice, VisibilitySet, Grep, Times}
use Rattle.iter_config.proofs.FilterStages.{filter_is}
use Rattle.iter_config.proofs.Meeting.{apart_columns}
use Rattle.tablet_model.proofs.Bools.{neither-of-or, never-both, true-of-not}
use Rattle.iter_config.proofs.Prefixes.{behind_false, filter_none, is_behind, map_all}

pub one_column : (c e : Cell) → same_column c e ≡ true → column_of e.key ≡ column_of c.key
one_column c e h = sym (exact_columns (column_of c.key) (column_of e.key) (columns_tie c e h))

-- filters of columns look at columns alone
pub keeps_of_columns : (p : Predicate) (negate : Bool) → is_of_column p ≡ true → IsOfColumns (keeps p negate)
unfolding keeps
keeps_of_columns (Family names) negate h c e same = ap (λ (k : Column). cond negate (not (has_family (Some names) k.family)) (has_family (Some names) k.family)) (one_column c e same)
keeps_of_columns (QualifierSlice from to) negate h c e same =
    ap (λ (k : Column). cond negate (not (is_from from k.qualifier && is_up_to to k.qualifier)) (is_from from k.qualifier && is_up_to to k.qualifier)) (one_column c e same)
keeps_of_columns (VisibilitySet names) negate h c e same =
    ap (λ (k : Column). cond negate (not (has_family (Some names) k.visibility)) (has_family (Some names) k.visibility)) (one_column c e same)
keeps_of_columns (Grep needle) negate h c e same = absurd (let k : false ≡ true = h in cc)
keeps_of_columns (Times from to) negate h c e same = absurd (let k : false ≡ true = h in cc)

-- each stage is what it says
pub well_made : (kind : Kind) → IsLimited kind → is_scan_only kind ≡ false → IsWellMade (stage_of kind)
well_made (Filter p negate) h only = filter_is IsWellMade p negate (keeps_of_columns p negate) (λ e. tt)
well_made (Versions max) h only = let low : 1 ≤ max = h.0 in omega (arith, low)
well_made (Combine op columns encoding deletes) h only = (listed_of_columns columns, values_lawful op encoding)
well_made WholeRow h only = absurd (let k : true ≡ false = only in cc)
well_made (Intersecting terms without) h only = absurd (let k : true ≡ false = only in cc)

-- what a stage allows behind it, one by one
abbrev AllowsBehind : Stage → Stage → Type 0
AllowsBehind (by_column p) t = ⊤
AllowsBehind (by_cell p) t = IsNoCombiner t
AllowsBehind (newest n) t = IsColumnFilter t
AllowsBehind (combine listed r full) t = IsBeside listed t
AllowsBehind rows t = IsNoCombiner t
AllowsBehind (intersect terms without) t = IsNoCombiner t

may_follow : (s : Stage) (ss : List Stage) → AllByRecursion (AllowsBehind s) ss → MayFollow s ss
may_follow (by_column p) ss h = tt
may_follow (by_cell p) ss h = h
may_follow (newest n) ss h = h
may_follow (combine listed r full) ss h = h
may_follow rows ss h = h
may_follow (intersect terms without) ss h = h

-- two kinds of iterators combine no column both
abbrev pub AreApart : Kind → Kind → Type 0
AreApart k l = list_any (λ n. list_any (names_meet n) (listed_columns l)) (listed_columns k) ≡ false

-- what is in order may follow, where neither is for scans alone
allows : (k l : Kind) → is_scan_only k ≡ false → is_scan_only l ≡ false → is_disordered k l ≡ false → AreApart k l → AllowsBehind (stage_of k) (stage_of l)
unfolding column_listed
allows (Filter p negate) (Filter q opposite) only other h apart =
    filter_is (λ s. AllowsBehind s (filter_stage q opposite)) p negate (λ e. tt) (λ e. filter_is IsNoCombiner q opposite (λ d. tt) (λ d. tt))
allows (Filter p negate) (Versions max) only other h apart = filter_is (λ s. AllowsBehind s (newest max)) p negate (λ e. tt) (λ e. tt)
allows (Filter p negate) (Combine op columns encoding deletes) only other h apart =
    filter_is (λ s. AllowsBehind s (stage_of (Combine op columns encoding deletes))) p negate (λ e. tt) (λ e. absurd (let t : true ≡ false = rw e at h in cc))
allows (Versions n) (Filter q opposite) only other h apart =
    let tests : not (is_of_column q) ≡ false = (neither-of-or (not (is_of_column q)) false (neither-of-or (not (is_of_column q) || false) false h).0).0 in
    filter_is IsColumnFilter q opposite (λ e. tt) (λ e. never-both (is_of_column q) (true-of-not (is_of_column q) tests) e)
allows (Versions n) (Versions max) only other h apart = absurd (let t : true ≡ false = h in cc)
allows (Versions n) (Combine op columns encoding deletes) only other h apart = absurd (let t : true ≡ false = h in cc)
allows (Combine op columns encoding deletes) (Filter q opposite) only other h apart =
    filter_is (IsBeside (column_listed columns)) q opposite (λ e. tt) (λ e. never-both (is_of_column q) (true-of-not (is_of_column q) h) e)
allows (Combine op columns encoding deletes) (Versions max) only other h apart = tt
allows (Combine op columns encoding deletes) (Combine o others e d) only other h apart = λ (c : Cell) k. apart_columns columns others c.key.family c.key.qualifier apart k
allows (Filter p negate) WholeRow only other h apart = absurd (let t : true ≡ false = other in cc)
allows (Filter p negate) (Intersecting terms without) only other h apart = absurd (let t : true ≡ false = other in cc)
allows (Versions n) WholeRow only other h apart = absurd (let t : true ≡ false = other in cc)
allows (Versions n) (Intersecting terms without) only other h apart = absurd (let t : true ≡ false = other in cc)
allows (Combine op columns encoding deletes) WholeRow only other h apart = absurd (let t : true ≡ false = other in cc)
allows (Combine op columns encoding deletes) (Intersecting terms without) only other h apart = absurd (let t : true ≡ false = other in cc)
allows WholeRow l only other h apart = absurd (let t : true ≡ false = only in cc)
allows (Intersecting terms without) l only other h apart = absurd (let t : true ≡ false = only in cc)

-- what holds of iterators holds of their stages
pub stages_all : (P : Stage → Type 0) (Q : IterSpec → Type 0) → ((s : IterSpec) → Q s → P (stage_of s.kind)) → (ss : List IterSpec) → AllByRecursion Q ss → AllByRecursion P (stage_list ss)
stages_all P Q f [] h = tt
stages_all P Q f (s ∷ ss) h = (f s h.0, stages_all P Q f ss h.1)

-- what runs in compactions is not for scans alone
in_compactions : (s : IterSpec) → leaves_scans s ≡ false → in_base s ≡ true → is_scan_only s.kind ≡ false
in_compactions s h base = go (is_scan_only s.kind) (in_base s) h base
  where
    go : (a b : Bool) → (a && b) ≡ false → b ≡ true → a ≡ false
    go a b h k = grind arith

followers : (s : IterSpec) (ss : List IterSpec) → is_scan_only s.kind ≡ false → AllByRecursion (λ t. leaves_scans t ≡ false) ss → AllByRecursion (λ t. out_of_order s t ≡ false) ss → AllByRecursion (λ t. shares_column s t ≡ false) ss
    → AllByRecursion (AllowsBehind (stage_of s.kind)) (stage_list (filter in_base ss))
followers s [] only scans h apart = tt
followers s (t ∷ ts) only scans h apart = go (in_base t) refl (followers s ts only scans.1 h.1 apart.1)
  where
    go : (b : Bool) → in_base t ≡ b → AllByRecursion (AllowsBehind (stage_of s.kind)) (stage_list (filter in_base ts))
        → AllByRecursion (AllowsBehind (stage_of s.kind)) (stage_list (cond b (t ∷ filter in_base ts) (filter in_base ts)))
    go true e later = (allows s.kind t.kind only (in_compactions t scans.0 e) (sym (ap (λ b. b && is_disordered s.kind t.kind) e) ∙ h.0) apart.0, later)
    go false e later = later

-- the stages of compactions are accepted
pub base_accepted : (specs : List IterSpec) → AllByRecursion (λ s. IsLimited s.kind) specs → AllByRecursion (λ s. leaves_scans s ≡ false) specs → NoneClashes out_of_order specs → NoneClashes shares_column specs
    → AreAccepted (stage_list (filter in_base specs))
unfolding IsDistinct
base_accepted [] limits scans order apart = tt
base_accepted (s ∷ ss) limits scans order apart = go (in_base s) refl (base_accepted ss limits.1 scans.1 order.1 apart.1)
  where
    go : (b : Bool) → in_base s ≡ b → AreAccepted (stage_list (filter in_base ss)) → AreAccepted (stage_list (cond b (s ∷ filter in_base ss) (filter in_base ss)))
    go true e later =
        let only : is_scan_only s.kind ≡ false = in_compactions s scans.0 e in
        (well_made s.kind limits.0 only, (may_follow (stage_of s.kind) (stage_list (filter in_base ss)) (followers s ss only scans.1 order.0 apart.0), later))
    go false e later = later

is_short : (kind : Kind) → IsShort (stage_of kind)
is_short (Filter p negate) = filter_is IsShort p negate (λ e. tt) (λ e. tt)
is_short (Versions max) = tt
is_short (Combine op columns encoding deletes) = values_short op encoding
is_short WholeRow = tt
is_short (Intersecting terms without) = tt

-- what combiners write is short
pub all_short : (ss : List IterSpec) → AllByRecursion IsShort (stage_list ss)
all_short [] = tt
all_short (s ∷ ss) = (is_short s.kind, all_short ss)

apart_from : (k l : Kind) → AreApart k l → IsApartFrom (stage_of k) (stage_of l)
unfolding column_listed
apart_from (Filter p negate) l h = filter_is (λ s. IsApartFrom s (stage_of l)) p negate (λ e. tt) (λ e. tt)
apart_from (Versions max) l h = tt
apart_from WholeRow l h = tt
apart_from (Intersecting terms without) l h = tt
apart_from (Combine op columns encoding deletes) WholeRow h = tt
apart_from (Combine op columns encoding deletes) (Intersecting terms without) h = tt
apart_from (Combine op columns encoding deletes) (Filter q opposite) h =
    filter_is (IsApartFrom (stage_of (Combine op columns encoding deletes))) q opposite (λ e. tt) (λ e. tt)
apart_from (Combine op columns encoding deletes) (Versions max) h = tt
apart_from (Combine op columns encoding deletes) (Combine o others e d) h = λ (c : Cell) k. apart_columns columns others c.key.family c.key.qualifier h k

-- the combiners that scans alone run
abbrev alone : List IterSpec → List IterSpec
alone ss = filter (λ s. is_combiner s.kind) (scans_alone ss)

-- they combine no column of the stages of compactions
pub scans_apart : (specs : List IterSpec) → IsDistinct (is_behind in_base) specs → NoneClashes shares_column specs
    → AllByRecursion (λ s. AllByRecursion (IsApartFrom s) (stage_list (alone specs))) (stage_list (filter in_base specs))
unfolding IsDistinct
scans_apart [] first apart = tt
scans_apart (s ∷ ss) first apart = go (in_base s) refl (scans_apart ss first.1 apart.1)
  where
    from : AllByRecursion (IsApartFrom (stage_of s.kind)) (stage_list (alone ss))
    from = stages_all (IsApartFrom (stage_of s.kind)) (λ t. shares_column s t ≡ false) (λ t k. apart_from s.kind t.kind k) (alone ss) (all_filter (λ t. shares_column s t ≡ false) (λ t. is_combiner t.kind) (scans_alone ss) (all_filter (λ t. shares_column s t ≡ false) (λ t. not (in_base t)) ss apart.0))

    none : in_base s ≡ false → filter in_base ss ≡ []
    none e = filter_none in_base ss (map_all (λ t. is_behind in_base s t ≡ false) (λ t. in_base t ≡ false) (λ t k. behind_false (in_base s) (in_base t) e k) ss first.0)

    go : (b : Bool) → in_base s ≡ b → AllByRecursion (λ t. AllByRecursion (IsApartFrom t) (stage_list (alone ss))) (stage_list (filter in_base ss))
        → AllByRecursion (λ t. AllByRecursion (IsApartFrom t) (stage_list (filter (λ t. is_combiner t.kind) (cond (not b) (s ∷ scans_alone ss) (scans_alone ss))))) (stage_list (cond b (s ∷ filter in_base ss) (filter in_base ss)))
    go true e later = (from, later)
    go false e later = rw (none e) tt
