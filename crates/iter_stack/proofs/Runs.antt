-- What the iterators of a usage make is what scans see and compactions make.
use Rattle.std.proofs.Common.{◌≡◌, Bool, true, false, cond, not, ◌&&◌, ◌||◌, List, [], ◌∷◌, refl, sym, ap, ◌∙◌, arith}
use Rattle.std.specs.List.{filter, list_any}
use Rattle.tablet_model.specs.Cell.{Cell}
use Rattle.tablet_model.specs.Markers.{live, mark}
use Rattle.tablet_model.specs.Stages.{by_column, by_cell, stage, stages}
use Rattle.tablet_model.specs.Compactions.{partial_stages}
use Rattle.tablet_model.specs.Accepted.{is_full}
use Rattle.iter_config.specs.Predicates.{is_of_column, keeps, filter_stage}
use Rattle.iter_config.specs.Rules.{is_full_combiner}
use Rattle.iter_config.specs.RulesOf.{rules_of}
use Rattle.iter_config.specs.Settings.{Settings}
use Rattle.iter_config.specs.Stages.{stage_list, stage_of}
use Rattle.iter_config.specs.declared.iter_spec.IterSpec.{IterSpec}
use Rattle.iter_config.specs.declared.iter_spec.Kind.{Kind}
use Rattle.iter_config.specs.declared.iter_spec.Kind.TheVariants.{Filter, Versions, Combine, WholeRow, Intersecting}
use Rattle.iter_stack.specs.Usages.{runs_in, usage_cells, usage_steady, takes_memory}
use Rattle.iter_stack.specs.Places.{bottom_cells}
use Rattle.iter_stack.proofs.Steps.{all_made, steady_by_all}
use Rattle.iter_stack.specs.declared.usage.Usage.{Usage}
use Rattle.iter_stack.specs.declared.usage.Usage.TheVariants.{Scan, Minc, MajcPart, MajcFull, Pack}

-- the iterators that run are the stages
filtered_made : (usage : Usage) (specs : List IterSpec) (list : List Cell) → all_made usage specs list ≡ stages (stage_list (filter (runs_in usage) specs)) list
unfolding all_made stages
filtered_made usage [] list = refl
filtered_made usage (s ∷ ss) list = go (runs_in usage s) (filtered_made usage ss (stage (stage_of s.kind) list)) (filtered_made usage ss list)
  where
    rest : List IterSpec
    rest = filter (runs_in usage) ss

    go : (b : Bool) → all_made usage ss (stage (stage_of s.kind) list) ≡ stages (stage_list rest) (stage (stage_of s.kind) list) → all_made usage ss list ≡ stages (stage_list rest) list
        → all_made usage ss (cond b (stage (stage_of s.kind) list) list) ≡ stages (stage_list (cond b (s ∷ rest) rest)) list
    go true run same = run
    go false run same = same

all_scanned : (specs : List IterSpec) (list : List Cell) → all_made Scan specs list ≡ stages (stage_list specs) list
unfolding all_made stages
all_scanned [] list = refl
all_scanned (s ∷ ss) list = all_scanned ss (stage (stage_of s.kind) list)

full_kind : (k : Kind) → is_full (stage_of k) ≡ is_full_combiner k
unfolding filter_stage
full_kind (Filter predicate negate) = go (is_of_column predicate)
  where
    go : (b : Bool) → is_full (cond b (by_column (keeps predicate negate)) (by_cell (keeps predicate negate))) ≡ false
    go true = refl
    go false = refl
full_kind (Versions max) = refl
full_kind (Combine op columns encoding deletes) = refl
full_kind WholeRow = refl
full_kind (Intersecting terms without) = refl

-- of major compactions of some files, these are the stages without the combiners of columns with deletes
partial_is : (specs : List IterSpec) → stage_list (filter (runs_in MajcPart) specs) ≡ partial_stages (stage_list (filter (λ s. s.scopes.majc) specs))
unfolding partial_stages
partial_is [] = refl
partial_is (s ∷ ss) = go s.scopes.majc (is_full_combiner s.kind) (full_kind s.kind) (partial_is ss)
  where
    rest : List IterSpec
    rest = filter (λ t. t.scopes.majc) ss

    go : (b f : Bool) → is_full (stage_of s.kind) ≡ f → stage_list (filter (runs_in MajcPart) ss) ≡ partial_stages (stage_list rest)
        → stage_list (cond (b && not f) (s ∷ filter (runs_in MajcPart) ss) (filter (runs_in MajcPart) ss)) ≡ partial_stages (stage_list (cond b (s ∷ rest) rest))
    go true true full same = same ∙ sym (ap (λ f. cond f (partial_stages (stage_list rest)) (stage_of s.kind ∷ partial_stages (stage_list rest))) full)
    go true false full same = ap (λ l. stage_of s.kind ∷ l) same ∙ sym (ap (λ f. cond f (partial_stages (stage_list rest)) (stage_of s.kind ∷ partial_stages (stage_list rest))) full)
    go false f full same = same

-- over what deletes leave
pub usage_made : (usage : Usage) (c : Settings) (list : List Cell) → all_made usage c.iterators (bottom_cells usage list) ≡ usage_cells c usage list
unfolding usage_cells rules_of
usage_made Scan c list = all_scanned c.iterators (live list)
usage_made Minc c list = filtered_made Minc c.iterators (mark list)
usage_made MajcPart c list = filtered_made MajcPart c.iterators (mark list) ∙ ap (λ ss. stages ss (mark list)) (partial_is c.iterators)
usage_made MajcFull c list = filtered_made MajcFull c.iterators (live list)
usage_made Pack c list = filtered_made Pack c.iterators (live list)

steady_is : (usage : Usage) (specs : List IterSpec) (leaf : Bool) → steady_by_all usage specs leaf ≡ (leaf && not (list_any (λ s. runs_in usage s && takes_memory s.kind) specs))
unfolding steady_by_all
steady_is usage [] leaf = end leaf
  where
    end : (leaf : Bool) → leaf ≡ (leaf && true)
    end leaf = grind arith
steady_is usage (s ∷ ss) leaf = steady_is usage ss (cond (runs_in usage s) (cond (takes_memory s.kind) false leaf) leaf) ∙ go (runs_in usage s) (takes_memory s.kind) (list_any (λ t. runs_in usage t && takes_memory t.kind) ss) leaf
  where
    go : (a b c leaf : Bool) → (cond a (cond b false leaf) leaf && not c) ≡ (leaf && not ((a && b) || c))
    go true true c true = refl
    go true true c false = refl
    go true false c leaf = refl
    go false b c leaf = refl

-- a stack is steady where no iterator that runs takes memory
pub usage_keeps_steady : (usage : Usage) (c : Settings) (leaf : Bool) → steady_by_all usage c.iterators leaf ≡ usage_steady c usage leaf
unfolding usage_steady
usage_keeps_steady usage c leaf = steady_is usage c.iterators leaf
