-- The rules of a configuration are sound.
use Rattle.std.proofs.Common.{◌≡◌, Bool, true, false, not, ◌&&◌, ◌||◌, cond, List, [], ◌∷◌, refl, sym, ap, ◌∙◌, arith}
use Rattle.std.proofs.lemmas.List.Elements.{recursion_from_All}
use Rattle.std.specs.Prelude.{filter}
use Rattle.std.specs.List.{AllByRecursion, IsDistinct, list_any}
use Rattle.cell_key.specs.Listed.{column_listed, is_listed}
use Rattle.tablet_model.specs.Accepted.{IsDeletable, IsNotNewest, is_full}
use Rattle.tablet_model.specs.Cell.{Cell, Column}
use Rattle.tablet_model.specs.Rules.{AreSound}
use Rattle.iter_config.specs.Columns.{is_timed, kind_refuses, one_refuses, refuses_delete}
use Rattle.iter_config.specs.Limits.{AreFields, IsLimited}
use Rattle.iter_config.specs.Order.{AreIterators, IsConfig, NoneClashes}
use Rattle.iter_config.specs.Rules.{in_base, is_cell_filter, is_combiner, is_full_combiner, is_full_under_versions, is_versions, leaves_scans, out_of_order}
use Rattle.iter_config.specs.RulesOf.{rules_of}
use Rattle.iter_config.specs.Settings.{Settings}
use Rattle.iter_config.specs.Stages.{stage_list, stage_of}
use Rattle.iter_config.specs.declared.iter_spec.IterSpec.{IterSpec}
use Rattle.iter_config.specs.declared.iter_spec.Kind.{Kind}
use Rattle.iter_config.specs.declared.iter_spec.Kind.TheVariants.{Filter, Versions, Combine, WholeRow, Intersecting}
use Rattle.iter_config.proofs.Following.{all_short, base_accepted, one_column, scans_apart}
use Rattle.iter_config.proofs.FilterStages.{filter_is}
use Rattle.tablet_model.proofs.Bools.{false-of-not, neither-of-or}
use Rattle.iter_config.proofs.Prefixes.{base_first, majc_first, map_all, minc_first, stands_first}

-- the iterators of major compactions
abbrev majors : List IterSpec → List IterSpec
majors ss = filter (λ s. s.scopes.majc) ss

full_of : (kind : Kind) → is_full (stage_of kind) ≡ is_full_combiner kind
full_of (Filter p negate) = filter_is (λ s. is_full s ≡ false) p negate (λ e. refl) (λ e. refl)
full_of (Versions max) = refl
full_of (Combine op columns encoding deletes) = refl
full_of WholeRow = refl
full_of (Intersecting terms without) = refl

not_newest : (kind : Kind) → is_versions kind ≡ false → IsNotNewest (stage_of kind)
not_newest (Filter p negate) h = filter_is IsNotNewest p negate (λ e. tt) (λ e. tt)
not_newest (Versions max) h = absurd (let k : true ≡ false = h in cc)
not_newest (Combine op columns encoding deletes) h = tt
not_newest WholeRow h = tt
not_newest (Intersecting terms without) h = tt

-- behind a full combiner of major compactions stand no versions of theirs
behind_full : (s : IterSpec) (ss : List IterSpec) → s.scopes.majc ≡ true → is_full_combiner s.kind ≡ true → AllByRecursion (λ t. is_full_under_versions s t ≡ false) ss
    → AllByRecursion IsNotNewest (stage_list (majors ss))
behind_full s [] major full h = tt
behind_full s (t ∷ ts) major full h = go t.scopes.majc refl (behind_full s ts major full h.1)
  where
    versions : (a b c d : Bool) → a ≡ true → c ≡ true → d ≡ true → ((a && b) && (c && d)) ≡ false → b ≡ false
    versions true true true true e f g k = absurd (let t : true ≡ false = k in cc)
    versions true false c d e f g k = refl
    versions true true true false e f g k = absurd (let t : false ≡ true = g in cc)
    versions true true false d e f g k = absurd (let t : false ≡ true = f in cc)
    versions false b c d e f g k = absurd (let t : false ≡ true = e in cc)

    go : (b : Bool) → t.scopes.majc ≡ b → AllByRecursion IsNotNewest (stage_list (majors ts)) → AllByRecursion IsNotNewest (stage_list (cond b (t ∷ majors ts) (majors ts)))
    go true e later =
        (not_newest t.kind (versions t.scopes.majc (is_versions t.kind) s.scopes.majc (is_full_combiner s.kind) e major full h.0), later)
    go false e later = later

full_combines : (kind : Kind) → is_combiner kind ≡ false → is_full_combiner kind ≡ false
full_combines (Filter p negate) h = refl
full_combines (Versions max) h = refl
full_combines (Combine op columns encoding deletes) h = absurd (let k : true ≡ false = h in cc)
full_combines WholeRow h = refl
full_combines (Intersecting terms without) h = refl

-- behind versions no combiner of compactions stands
behind_versions : (s : IterSpec) (ss : List IterSpec) → is_versions s.kind ≡ true → AllByRecursion (λ t. out_of_order s t ≡ false) ss → list_any is_full (stage_list (majors ss)) ≡ false
behind_versions s [] newest h = refl
behind_versions s (t ∷ ts) newest h = go t.scopes.majc refl (behind_versions s ts newest h.1)
  where
    uncombined : (m j v c f x p q : Bool) → j ≡ true → v ≡ true → ((m || j) && (((v && ((x || c) || f)) || (p && c)) || (q && f))) ≡ false → c ≡ false
    uncombined m j v c f x p q e g k = grind arith

    go : (b : Bool) → t.scopes.majc ≡ b → list_any is_full (stage_list (majors ts)) ≡ false → list_any is_full (stage_list (cond b (t ∷ majors ts) (majors ts))) ≡ false
    go true e later = ap (λ b. b || list_any is_full (stage_list (majors ts))) (full_of t.kind ∙ full_combines t.kind (uncombined t.scopes.minc t.scopes.majc (is_versions s.kind) (is_combiner t.kind) (is_cell_filter t.kind) (is_versions t.kind) (is_cell_filter s.kind) (is_combiner s.kind) e newest h.0)) ∙ later
    go false e later = later

-- where a combiner of major compactions takes deletes, they count no versions
never_newest : (specs : List IterSpec) → NoneClashes out_of_order specs → NoneClashes is_full_under_versions specs → list_any is_full (stage_list (majors specs)) ≡ true
    → AllByRecursion IsNotNewest (stage_list (majors specs))
unfolding IsDistinct
never_newest [] order under h = tt
never_newest (s ∷ ss) order under h = go s.scopes.majc refl h (never_newest ss order.1 under.1)
  where
    itself : (b : Bool) → is_versions s.kind ≡ b → list_any is_full (stage_list (majors ss)) ≡ true → IsNotNewest (stage_of s.kind)
    itself true e any = absurd (let t : true ≡ false = sym any ∙ behind_versions s ss e order.0 in cc)
    itself false e any = not_newest s.kind e

    full_first : (kind : Kind) → is_full_combiner kind ≡ true → is_versions kind ≡ false
    full_first (Filter p negate) e = refl
    full_first (Versions max) e = absurd (let t : false ≡ true = e in cc)
    full_first (Combine op columns encoding deletes) e = refl
    full_first WholeRow e = refl
    full_first (Intersecting terms without) e = refl

    here : (f : Bool) → is_full_combiner s.kind ≡ f → s.scopes.majc ≡ true → (f || list_any is_full (stage_list (majors ss))) ≡ true
        → (list_any is_full (stage_list (majors ss)) ≡ true → AllByRecursion IsNotNewest (stage_list (majors ss))) → AllByRecursion IsNotNewest (stage_list (s ∷ majors ss))
    here true e major any later = (not_newest s.kind (full_first s.kind e), behind_full s ss major e under.0)
    here false e major any later = (itself (is_versions s.kind) refl any, later any)

    go : (b : Bool) → s.scopes.majc ≡ b → list_any is_full (stage_list (cond b (s ∷ majors ss) (majors ss))) ≡ true
        → (list_any is_full (stage_list (majors ss)) ≡ true → AllByRecursion IsNotNewest (stage_list (majors ss))) → AllByRecursion IsNotNewest (stage_list (cond b (s ∷ majors ss) (majors ss)))
    go true e any later = here (is_full_combiner s.kind) refl e (sym (ap (λ b. b || list_any is_full (stage_list (majors ss))) (full_of s.kind)) ∙ any) later
    go false e any later = later any

deletable_kind : (e : Cell) (kind : Kind) → kind_refuses e.key.family e.key.qualifier kind ≡ false → IsDeletable e (stage_of kind)
unfolding column_listed
deletable_kind e (Filter p negate) h = filter_is (IsDeletable e) p negate (λ k. tt) (λ k. tt)
deletable_kind e (Versions max) h = tt
deletable_kind e WholeRow h = tt
deletable_kind e (Intersecting terms without) h = tt
deletable_kind e (Combine op columns encoding deletes) h = λ k. sym (ap (λ b. not b && is_listed columns e.key.family e.key.qualifier) k) ∙ h

-- a column that takes deletes has no combiner that refuses them
deletable : (e : Cell) (specs : List IterSpec) → one_refuses specs e.key.family e.key.qualifier ≡ false → AllByRecursion (IsDeletable e) (stage_list (majors specs))
unfolding one_refuses
deletable e [] h = tt
deletable e (s ∷ ss) h = go s.scopes.majc (deletable e ss parts.1)
  where
    parts : (kind_refuses e.key.family e.key.qualifier s.kind ≡ false) × (one_refuses ss e.key.family e.key.qualifier ≡ false)
    parts = neither-of-or (kind_refuses e.key.family e.key.qualifier s.kind) (one_refuses ss e.key.family e.key.qualifier) h

    go : (b : Bool) → AllByRecursion (IsDeletable e) (stage_list (majors ss)) → AllByRecursion (IsDeletable e) (stage_list (cond b (s ∷ majors ss) (majors ss)))
    go true later = (deletable_kind e s.kind parts.0, later)
    go false later = later

minc_in_base : (s : IterSpec) → s.scopes.minc ≡ true → in_base s ≡ true
minc_in_base s h = ap (λ b. b || s.scopes.majc) h

majc_in_base : (s : IterSpec) → s.scopes.majc ≡ true → in_base s ≡ true
majc_in_base s h = go s.scopes.minc
  where
    go : (b : Bool) → (b || s.scopes.majc) ≡ true
    go true = refl
    go false = h

pub sound : (c : Settings) → IsConfig c → AreSound (rules_of c)
unfolding rules_of
sound c config = record {
  accepted = base_accepted specs (map_all AreFields (λ s. IsLimited s.kind) (λ s k. k.kind) specs (recursion_from_All AreFields specs h.limits)) (recursion_from_All (λ s. leaves_scans s ≡ false) specs h.in_scans) h.base_order h.apart;
  short = all_short (filter in_base specs);
  apart = scans_apart specs (base_first specs h.prefixes) h.apart;
  minor_first = stands_first (λ s. s.scopes.minc) minc_in_base specs (minc_first specs h.prefixes);
  major_first = stands_first (λ s. s.scopes.majc) majc_in_base specs (majc_first specs h.prefixes);
  not_newest = never_newest specs h.base_order h.not_newest;
  plain_columns = λ d e same. ap (λ (k : Column). not (is_timed c k.family)) (one_column d e same);
  delete_columns = λ d e same. ap (λ (k : Column). not (refuses_delete c k.family k.qualifier)) (one_column d e same);
  plain_deletes = λ e may. ap not ((refuses e may).0);
  deletable = λ e may. deletable e specs ((refuses e may).1);
}
  where
    specs : List IterSpec
    specs = c.iterators

    h : AreIterators c.iterators
    h = config.iterators

    refuses : (e : Cell) → not (refuses_delete c e.key.family e.key.qualifier) ≡ true → (is_timed c e.key.family ≡ false) × (one_refuses c.iterators e.key.family e.key.qualifier ≡ false)
    refuses e may = neither-of-or (is_timed c e.key.family) (one_refuses c.iterators e.key.family e.key.qualifier)
        (false-of-not (refuses_delete c e.key.family e.key.qualifier) may)
