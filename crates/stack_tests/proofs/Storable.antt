-- What the tests find that a store may have.
use Rattle.std.proofs.Common.{◌≡◌, ◌==◌, ◌≤◌, ℕ, Bool, true, false, not, ◌||◌, cond, List, [], ◌∷◌, length, lit≤, sym, ap, ◌∙◌, arith}
use Rattle.std.specs.Prelude.{filter}
use Rattle.std.specs.List.{AllByRecursion, list_all}
use Rattle.std.proofs.lemmas.Bool.Decides.{nat_tests}
use Rattle.std.proofs.lemmas.List.{nil_from_length}
use Rattle.tablet_model.specs.Bounds.{KeyBounds}
use Rattle.tablet_model.specs.Cell.{Cell}
use Rattle.tablet_model.specs.Reading.{IsReadBy}
use Rattle.tablet_model.specs.Rules.{IsStorable}
use Rattle.tablet_model.proofs.Bools.{both-of-and}
use Rattle.cell_key.specs.Listed.{column_listed}
use Rattle.number_values.specs.Values.{reduction_of}
use Rattle.iter_config.specs.Columns.{all_read, kind_reads, reads_value, refuses_delete}
use Rattle.iter_config.specs.Rules.{in_base, is_combiner}
use Rattle.iter_config.specs.RulesOf.{rules_of, scans_alone}
use Rattle.iter_config.specs.Settings.{Settings}
use Rattle.iter_config.specs.Stages.{stage_list, stage_of}
use Rattle.iter_config.specs.declared.iter_spec.IterSpec.{IterSpec}
use Rattle.iter_config.specs.declared.iter_spec.Kind.{Kind}
use Rattle.iter_config.specs.declared.iter_spec.Kind.TheVariants.{Filter, Versions, Combine, WholeRow, Intersecting}
use Rattle.iter_stack.proofs.Taken.{filter_reads}

one_reads : (e : Cell) (k : Kind) → kind_reads e.key.family e.key.qualifier e.value k ≡ true → IsReadBy e (stage_of k)
unfolding column_listed
one_reads e (Filter predicate negate) h = filter_reads e predicate negate
one_reads e (Versions max) h = tt
one_reads e WholeRow h = tt
one_reads e (Intersecting terms without) h = tt
one_reads e (Combine op columns encoding deletes) h = λ listed. sym (ap (λ l. not l || (reduction_of op encoding).reads e.value) listed) ∙ h

each_reads : (e : Cell) (specs : List IterSpec) → all_read specs e.key.family e.key.qualifier e.value ≡ true → AllByRecursion (IsReadBy e) (stage_list specs)
unfolding all_read
each_reads e [] h = tt
each_reads e (s ∷ ss) h =
    let (here, later) = both-of-and (kind_reads e.key.family e.key.qualifier e.value s.kind) (list_all (λ t. kind_reads e.key.family e.key.qualifier e.value t.kind) ss) h in
    (one_reads e s.kind here, each_reads e ss later)

-- what all iterators read, some of them do
some_read : (e : Cell) (pick : IterSpec → Bool) (specs : List IterSpec) → AllByRecursion (IsReadBy e) (stage_list specs) → AllByRecursion (IsReadBy e) (stage_list (filter pick specs))
some_read e pick [] h = tt
some_read e pick (s ∷ ss) h = go (pick s) (some_read e pick ss h.1)
  where
    go : (b : Bool) → AllByRecursion (IsReadBy e) (stage_list (filter pick ss)) → AllByRecursion (IsReadBy e) (stage_list (cond b (s ∷ filter pick ss) (filter pick ss)))
    go true rest = (h.0, rest)
    go false rest = rest

-- a put whose value is short and read
pub storable_put : (c : Settings) (e : Cell) → KeyBounds e.key.row e.key.family e.key.qualifier e.key.visibility → e.key.deleted ≡ false
    → length e.value ≤ 65536 → reads_value c e.key.family e.key.qualifier e.value ≡ true → IsStorable (rules_of c) e
unfolding rules_of
storable_put c e bounds put short reads = record {
  bounds = bounds;
  short = short;
  no_value = λ d. absurd (let no : true ≡ false = sym d ∙ put in cc);
  may_delete = λ d. absurd (let no : true ≡ false = sym d ∙ put in cc);
  reads = λ _. some_read e in_base c.iterators (each_reads e c.iterators reads);
  reads_scan = λ _. some_read e (λ s. is_combiner s.kind) (scans_alone c.iterators) (some_read e (λ s. not (in_base s)) c.iterators (each_reads e c.iterators reads));
}

-- a delete that is not refused
pub storable_delete : (c : Settings) (e : Cell) → KeyBounds e.key.row e.key.family e.key.qualifier e.key.visibility → e.key.deleted ≡ true
    → (length e.value == 0) ≡ true → not (refuses_delete c e.key.family e.key.qualifier) ≡ true → IsStorable (rules_of c) e
unfolding rules_of
storable_delete c e bounds deleted empty taken = record {
  bounds = bounds;
  short = rw (none_of e.value empty) (lit≤ tt);
  no_value = λ _. none_of e.value empty;
  may_delete = λ _. taken;
  reads = λ put. absurd (let no : true ≡ false = sym deleted ∙ put in cc);
  reads_scan = λ put. absurd (let no : true ≡ false = sym deleted ∙ put in cc);
}
  where
    none_of : (v : List ℕ) → (length v == 0) ≡ true → v ≡ []
    none_of v h = nil_from_length v (grind (arith, nat_tests))
