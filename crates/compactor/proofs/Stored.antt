-- What a store may have, all iterators of its configuration read, and what compactions make of it fits into a file.
use Rattle.std.proofs.Common.{◌≡◌, ◌≤◌, Bool, true, false, not, cond, List, [], ◌∷◌, length, append-nil, refl, sym, subst, arith}
use Rattle.std.specs.Prelude.{filter}
use Rattle.std.specs.List.{AllByRecursion}
use Rattle.tablet_model.specs.Cell.{Cell}
use Rattle.tablet_model.specs.Compactions.{partial_stages}
use Rattle.tablet_model.specs.Markers.{live, mark}
use Rattle.tablet_model.specs.Reading.{AreUnmarkedRead, IsReadBy}
use Rattle.tablet_model.specs.Rules.{AreStorable, IsStorable, Rules}
use Rattle.tablet_model.proofs.Sums.{all_weaker}
use Rattle.stage_laws.proofs.Parts.{all_partial}
use Rattle.stage_laws.proofs.Storable.{IsKeeping, keeps_first, keeps_live, keeps_mark, keeps_stages}
use Rattle.sorted_file.specs.Lists.{longest_value}
use Rattle.iter_config.specs.Order.{IsConfig}
use Rattle.iter_config.specs.Rules.{in_base, is_combiner}
use Rattle.iter_config.specs.RulesOf.{rules_of, scans_alone}
use Rattle.iter_config.specs.Settings.{Settings}
use Rattle.iter_config.specs.Stages.{stage_list, stages_of}
use Rattle.iter_config.specs.declared.iter_spec.IterSpec.{IterSpec}
use Rattle.iter_config.proofs.Soundness.{sound}
use Rattle.compactor.specs.FileValues.{HasShortValue}
use Rattle.iter_stack.specs.Usages.{usage_cells}
use Rattle.iter_stack.specs.declared.usage.Usage.{Usage}
use Rattle.iter_stack.specs.declared.usage.Usage.TheVariants.{Scan, Minc, MajcPart, MajcFull, Pack}
use Rattle.iter_stack.proofs.Taken.{plain_reads}

-- ---- what is read

-- what the iterators of compactions and the other combiners read, all iterators do
pub all_read_by : (e : Cell) (specs : List IterSpec) → AllByRecursion (IsReadBy e) (stage_list (filter in_base specs))
    → AllByRecursion (IsReadBy e) (stage_list (filter (λ s. is_combiner s.kind) (scans_alone specs))) → AllByRecursion (IsReadBy e) (stage_list specs)
all_read_by e [] b a = tt
all_read_by e (s ∷ ss) b a = go (in_base s) b a (all_read_by e ss)
  where
    go : (d : Bool) → AllByRecursion (IsReadBy e) (stage_list (cond d (s ∷ filter in_base ss) (filter in_base ss)))
        → AllByRecursion (IsReadBy e) (stage_list (filter (λ t. is_combiner t.kind) (cond (not d) (s ∷ scans_alone ss) (scans_alone ss))))
        → (AllByRecursion (IsReadBy e) (stage_list (filter in_base ss)) → AllByRecursion (IsReadBy e) (stage_list (filter (λ t. is_combiner t.kind) (scans_alone ss))) → AllByRecursion (IsReadBy e) (stage_list ss))
        → AllByRecursion (IsReadBy e) (stage_list (s ∷ ss))
    go true b a rest = (b.0, rest b.1 a)
    go false b a rest = at (is_combiner s.kind) refl a
      where
        at : (j : Bool) → is_combiner s.kind ≡ j
            → AllByRecursion (IsReadBy e) (stage_list (cond j (s ∷ filter (λ t. is_combiner t.kind) (scans_alone ss)) (filter (λ t. is_combiner t.kind) (scans_alone ss))))
            → AllByRecursion (IsReadBy e) (stage_list (s ∷ ss))
        at true is a = (a.0, rest b a.1)
        at false is a = (plain_reads e s.kind is, rest b a)

one_read : (c : Settings) (e : Cell) → IsStorable (rules_of c) e → e.key.deleted ≡ false → AllByRecursion (IsReadBy e) (stages_of c)
unfolding rules_of
one_read c e k d = all_read_by e c.iterators (k.reads d) (k.reads_scan d)

pub storable_read : (c : Settings) (list : List Cell) → AreStorable (rules_of c) list → AreUnmarkedRead (stages_of c) list
storable_read c list h = all_weaker (IsStorable (rules_of c)) (λ e. e.key.deleted ≡ false → AllByRecursion (IsReadBy e) (stages_of c)) (one_read c) list h

-- ---- what a file takes

pub short_value : (c : Rules) (e : Cell) → IsStorable c e → HasShortValue e
short_value c e k = go e.key.deleted k.no_value
  where
    go : (d : Bool) → (d ≡ true → e.value ≡ []) → length e.value ≤ longest_value d
    go true none = subst (λ v. length v ≤ 0) (sym (none refl)) (omega arith)
    go false none = k.short

-- what a compaction makes may be in a store
usage_storable : (c : Settings) → IsConfig c → (usage : Usage) → ¬ (usage ≡ Scan) → (list : List Cell) → AreStorable (rules_of c) list
    → AreStorable (rules_of c) (usage_cells c usage list)
unfolding usage_cells
usage_storable c config Scan compacts list h = absurd (compacts refl)
usage_storable c config Minc compacts list h =
    let rules = rules_of c in
    let law = sound c config in
    keeps_stages rules rules.minor (keeps_first rules law rules.minor law.minor_first) (mark list) (keeps_mark rules list h)
usage_storable c config MajcPart compacts list h =
    let rules = rules_of c in
    let law = sound c config in
    keeps_stages rules (partial_stages rules.major) (all_partial (IsKeeping rules) rules.major (keeps_first rules law rules.major law.major_first)) (mark list) (keeps_mark rules list h)
usage_storable c config MajcFull compacts list h =
    let rules = rules_of c in
    let law = sound c config in
    keeps_stages rules rules.major (keeps_first rules law rules.major law.major_first) (live list) (keeps_live rules list h)
usage_storable c config Pack compacts list h =
    let rules = rules_of c in
    let law = sound c config in
    keeps_stages rules rules.base (keeps_first rules law rules.base ([], append-nil rules.base)) (live list) (keeps_live rules list h)

-- so a file takes it
pub usage_short : (c : Settings) → IsConfig c → (usage : Usage) → ¬ (usage ≡ Scan) → (list : List Cell) → AreStorable (rules_of c) list
    → AllByRecursion HasShortValue (usage_cells c usage list)
usage_short c config usage compacts list h =
    let rules = rules_of c in
    all_weaker (IsStorable rules) HasShortValue (short_value rules) (usage_cells c usage list) (usage_storable c config usage compacts list h)
