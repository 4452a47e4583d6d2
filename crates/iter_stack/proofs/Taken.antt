-- What a configuration reads, the iterators of each usage take.
use Rattle.std.proofs.Common.{◌≡◌, Bool, true, false, not, ◌&&◌, ◌||◌, cond, List, [], ◌∷◌, refl, sym, ◌∙◌, subst, arith}
use Rattle.std.proofs.lemmas.List.Elements.{recursion_from_All}
use Rattle.std.specs.List.{AllByRecursion, IsDistinct}
use Rattle.tablet_model.specs.Cell.{Cell}
use Rattle.tablet_model.specs.Kept.{filter_beside}
use Rattle.tablet_model.specs.Markers.{live, is_live, mark, is_unmarked}
use Rattle.tablet_model.specs.Versions.{versions, is_recent}
use Rattle.tablet_model.specs.Filters.{filter_puts}
use Rattle.tablet_model.specs.Combines.{combine_columns, leads, with_joined_value, joined_value}
use Rattle.tablet_model.specs.Reductions.{Reduction}
use Rattle.tablet_model.specs.Reading.{IsReadBy, AreUnmarkedRead, AreInFront}
use Rattle.tablet_model.specs.Stages.{Stage, by_column, by_cell, combine, intersect, rows, stage}
use Rattle.tablet_model.proofs.Sums.{all_filter}
use Rattle.tablet_model.proofs.Combines.{NoMarkers}
use Rattle.tablet_model.proofs.Risings.{all_kept}
use Rattle.tablet_model.proofs.Maps.{all_map}
use Rattle.stage_laws.proofs.InFront.{AreInFront-mark, AreInFront-plain, AreInFront-stage}
use Rattle.stage_laws.proofs.Marked.{live_plain}
use Rattle.stage_laws.proofs.Parts.{stage_plain}
use Rattle.cell_key.specs.Listed.{is_listed, column_listed, listed_of_columns}
use Rattle.cell_key.specs.declared.column_name.ColumnName.{ColumnName}
use Rattle.number_values.specs.Values.{reduction_of}
use Rattle.number_values.specs.declared.op.Encoding.{Encoding}
use Rattle.number_values.specs.declared.op.Op.{Op}
use Rattle.iter_config.specs.declared.iter_spec.Deletes.{Deletes}
use Rattle.combiners.specs.Gathers.{AreRead, stands}
use Rattle.iter_config.specs.Order.{IsConfig}
use Rattle.iter_config.specs.Predicates.{is_of_column, keeps, filter_stage}
use Rattle.iter_config.specs.Limits.{AreFields, IsLimited}
use Rattle.iter_config.specs.Rules.{combines_behind, is_combiner, is_full_combiner, is_of_deletes, is_scan_only, leaves_scans, shares_column}
use Rattle.iter_config.specs.Settings.{Settings}
use Rattle.iter_config.specs.Stages.{stage_list, stage_of, stages_of}
use Rattle.iter_config.specs.declared.iter_spec.IterSpec.{IterSpec}
use Rattle.iter_config.specs.declared.iter_spec.Kind.{Kind}
use Rattle.iter_config.specs.declared.iter_spec.Kind.TheVariants.{Filter, Versions, Combine, WholeRow, Intersecting}
use Rattle.iter_config.specs.declared.predicate.Predicate.{Predicate}
use Rattle.iter_config.proofs.Following.{AreApart, stages_all}
use Rattle.iter_config.proofs.Meeting.{apart_columns}
use Rattle.iter_config.proofs.Prefixes.{map_all}
use Rattle.iter_stack.specs.Places.{bottom_cells, made_by, KindTakes}
use Rattle.iter_stack.proofs.Steps.{AllTake}
use Rattle.iter_stack.specs.Usages.{runs_in}
use Rattle.iter_stack.specs.declared.usage.Usage.{Usage}
use Rattle.iter_stack.specs.declared.usage.Usage.TheVariants.{Scan, Minc, MajcPart, MajcFull, Pack}

-- an entry that is no marker is read by each of these
abbrev IsUnmarkedRead : List Stage → Cell → Type 0
IsUnmarkedRead ss e = e.key.deleted ≡ false → AllByRecursion (IsReadBy e) ss

later_read : (s : Stage) (ss : List Stage) (list : List Cell) → AreUnmarkedRead (s ∷ ss) list → AreUnmarkedRead ss list
later_read s ss [] h = tt
later_read s ss (e ∷ es) h = ((λ put. (h.0 put).1), later_read s ss es h.1)

-- filters read all values
pub filter_reads : (e : Cell) (predicate : Predicate) (negate : Bool) → IsReadBy e (filter_stage predicate negate)
unfolding filter_stage
filter_reads e predicate negate = go (is_of_column predicate)
  where
    go : (b : Bool) → IsReadBy e (cond b (by_column (keeps predicate negate)) (by_cell (keeps predicate negate)))
    go true = tt
    go false = tt

-- an entry in the columns of one combiner need not be read by those of other columns
other_reads : (op : Op) (columns : List ColumnName) (encoding : Encoding) (deletes : Deletes) (e : Cell) → is_listed columns e.key.family e.key.qualifier ≡ true → (k : Kind)
    → AreApart (Combine op columns encoding deletes) k → IsReadBy e (stage_of k)
unfolding column_listed
other_reads op columns encoding deletes e h (Filter predicate negate) apart = filter_reads e predicate negate
other_reads op columns encoding deletes e h (Versions max) apart = tt
other_reads op columns encoding deletes e h WholeRow apart = tt
other_reads op columns encoding deletes e h (Intersecting terms without) apart = tt
other_reads op columns encoding deletes e h (Combine o others c d) apart =
    λ listed. absurd (let no : true ≡ false = sym listed ∙ apart_columns columns others e.key.family e.key.qualifier apart h in cc)

-- what a combiner rewrites is in its columns
rewritten_read : (columns : List ColumnName) (r : Reduction) (ss : List Stage) → ((e : Cell) → is_listed columns e.key.family e.key.qualifier ≡ true → AllByRecursion (IsReadBy e) ss)
    → (list : List Cell) (e : Cell) → IsUnmarkedRead ss e → IsUnmarkedRead ss (with_joined_value (column_listed columns) r list e)
unfolding with_joined_value column_listed
rewritten_read columns r ss read list e h = go e.key.deleted (is_listed columns e.key.family e.key.qualifier) refl
  where
    new : Cell
    new = record { key = e.key; value = joined_value r list e }

    go : (d l : Bool) → is_listed columns e.key.family e.key.qualifier ≡ l → IsUnmarkedRead ss (cond (not d && l) new e)
    go true l k = h
    go false true k = λ put. read new k
    go false false k = h

-- an iterator that is no combiner reads each value
pub plain_reads : (e : Cell) (k : Kind) → is_combiner k ≡ false → IsReadBy e (stage_of k)
plain_reads e (Filter predicate negate) h = filter_reads e predicate negate
plain_reads e (Versions max) h = tt
plain_reads e (Combine op columns encoding deletes) h = absurd (let k : true ≡ false = h in cc)
plain_reads e WholeRow h = tt
plain_reads e (Intersecting terms without) h = tt

-- and so do all of them
plain_read : (ss : List IterSpec) → AllByRecursion (λ t. is_combiner t.kind ≡ false) ss → (list : List Cell) → AreUnmarkedRead (stage_list ss) list
plain_read ss h [] = tt
plain_read ss h (e ∷ es) = ((λ put. stages_all (IsReadBy e) (λ t. is_combiner t.kind ≡ false) (λ t k. plain_reads e t.kind k) ss h), plain_read ss h es)

-- a stage leaves its entries to be read by those behind it
stage_read : (k : Kind) (ss : List IterSpec) → AllByRecursion (λ t. AreApart k t.kind) ss → AllByRecursion (λ t. (is_scan_only k && is_combiner t.kind) ≡ false) ss → (list : List Cell) → AreUnmarkedRead (stage_list ss) list
    → AreUnmarkedRead (stage_list ss) (stage (stage_of k) list)
unfolding stage filter_stage filter_puts versions combine_columns
stage_read (Filter predicate negate) ss apart behind list h = go (is_of_column predicate)
  where
    go : (b : Bool) → AreUnmarkedRead (stage_list ss) (stage (cond b (by_column (keeps predicate negate)) (by_cell (keeps predicate negate))) list)
    go true = all_filter (IsUnmarkedRead (stage_list ss)) (λ e. e.key.deleted || keeps predicate negate e) list h
    go false = all_filter (IsUnmarkedRead (stage_list ss)) (λ e. e.key.deleted || keeps predicate negate e) list h
stage_read WholeRow ss apart behind list h = plain_read ss behind (stage rows list)
stage_read (Intersecting terms without) ss apart behind list h = plain_read ss behind (stage (intersect terms without) list)
stage_read (Versions max) ss apart behind list h = all_kept (IsUnmarkedRead (stage_list ss)) (is_recent max) [] list h
stage_read (Combine op columns encoding deletes) ss apart behind list h =
    let P : Cell → Type 0 = IsUnmarkedRead (stage_list ss) in
    let r : Reduction = reduction_of op encoding in
    let others : (e : Cell) → is_listed columns e.key.family e.key.qualifier ≡ true → AllByRecursion (IsReadBy e) (stage_list ss) =
    λ e listed. stages_all (IsReadBy e) (λ t. AreApart (Combine op columns encoding deletes) t.kind) (λ t k. other_reads op columns encoding deletes e listed t.kind k) ss apart in
    all_map P P (with_joined_value (column_listed columns) r list) (rewritten_read columns r (stage_list ss) others list)
    (filter_beside (leads (column_listed columns)) [] list) (all_kept P (leads (column_listed columns)) [] list h)

-- the values in the listed columns
values_read : (columns : List ColumnName) (r : Reduction) (full : Bool) (ss : List Stage) (list : List Cell) → AreUnmarkedRead (combine (column_listed columns) r full ∷ ss) list → AreRead columns r list
unfolding column_listed
values_read columns r full ss [] h = tt
values_read columns r full ss (e ∷ es) h = (one e h.0, values_read columns r full ss es h.1)
  where
    parts : (d l : Bool) → (d || not l) ≡ false → (d ≡ false) × (l ≡ true)
    parts false true k = (refl, refl)
    parts false false k = absurd (let no : true ≡ false = k in cc)
    parts true l k = absurd (let no : true ≡ false = k in cc)

    one : (e : Cell) → IsUnmarkedRead (combine (column_listed columns) r full ∷ ss) e → stands columns e ≡ false → r.reads e.value ≡ true
    one e h k = let (put, listed) = parts e.key.deleted (is_listed columns e.key.family e.key.qualifier) k in (h put).0 listed

takes_kind : (k : Kind) → IsLimited k → (ss : List Stage) (list : List Cell) → (is_scan_only k ≡ true → NoMarkers list) → AreUnmarkedRead (stage_of k ∷ ss) list → ((columns : List ColumnName) → AreInFront (column_listed columns) [] list) → KindTakes k list
takes_kind (Filter predicate negate) limited ss list live read front = tt
takes_kind (Versions max) limited ss list live read front = tt
takes_kind WholeRow limited ss list live read front = live refl
takes_kind (Intersecting terms without) limited ss list live read front = limited.0
takes_kind (Combine op columns encoding deletes) limited ss list live read front = (values_read columns (reduction_of op encoding) (is_of_deletes deletes) ss list read, front columns)

-- what is for scans alone runs in scans
in_scan : (usage : Usage) (s : IterSpec) → leaves_scans s ≡ false → runs_in usage s ≡ true → is_scan_only s.kind ≡ true → usage ≡ Scan
in_scan usage s stays runs only = go usage runs
  where
    never : (o m j : Bool) → (o && (m || j)) ≡ false → o ≡ true → (m || j) ≡ true → ⊥
    never o m j h k r = grind arith

    left : (m j : Bool) → m ≡ true → (m || j) ≡ true
    left m j h = grind arith

    right : (m j : Bool) → j ≡ true → (m || j) ≡ true
    right m j h = grind arith

    first : (j f : Bool) → (j && f) ≡ true → j ≡ true
    first j f h = grind arith

    go : (usage : Usage) → runs_in usage s ≡ true → usage ≡ Scan
    go Scan r = refl
    go Minc r = absurd (never (is_scan_only s.kind) s.scopes.minc s.scopes.majc stays only (left s.scopes.minc s.scopes.majc r))
    go MajcPart r = absurd (never (is_scan_only s.kind) s.scopes.minc s.scopes.majc stays only (right s.scopes.minc s.scopes.majc (first s.scopes.majc (not (is_full_combiner s.kind)) r)))
    go MajcFull r = absurd (never (is_scan_only s.kind) s.scopes.minc s.scopes.majc stays only (right s.scopes.minc s.scopes.majc r))
    go Pack r = absurd (never (is_scan_only s.kind) s.scopes.minc s.scopes.majc stays only r)

-- each iterator takes what those before it make
takes_all : (usage : Usage) (specs : List IterSpec) → AllByRecursion (λ s. IsLimited s.kind) specs → AllByRecursion (λ s. leaves_scans s ≡ false) specs → IsDistinct combines_behind specs → IsDistinct shares_column specs
    → (list : List Cell) → (usage ≡ Scan → NoMarkers list) → AreUnmarkedRead (stage_list specs) list
    → ((columns : List ColumnName) → AreInFront (column_listed columns) [] list) → AllTake usage specs list
unfolding AllTake IsDistinct
takes_all usage [] limits stays behind apart list plain read front = tt
takes_all usage (s ∷ ss) limits stays behind apart list plain read front = (
  (λ runs. takes_kind s.kind limits.0 (stage_list ss) list (λ only. plain (in_scan usage s stays.0 runs only)) read front),
  takes_all usage ss limits.1 stays.1 behind.1 apart.1 (made_by usage s list) (plain_on (runs_in usage s)) (read_on (runs_in usage s)) (front_on (runs_in usage s)),
)
  where
    later : AreUnmarkedRead (stage_list ss) list
    later = later_read (stage_of s.kind) (stage_list ss) list read

    read_on : (b : Bool) → AreUnmarkedRead (stage_list ss) (cond b (stage (stage_of s.kind) list) list)
    read_on true = stage_read s.kind ss apart.0 behind.0 list later
    read_on false = later

    plain_on : (b : Bool) → usage ≡ Scan → NoMarkers (cond b (stage (stage_of s.kind) list) list)
    plain_on true scan = stage_plain (stage_of s.kind) list (plain scan)
    plain_on false scan = plain scan

    front_on : (b : Bool) (columns : List ColumnName) → AreInFront (column_listed columns) [] (cond b (stage (stage_of s.kind) list) list)
    front_on true columns = AreInFront-stage (column_listed columns) (listed_of_columns columns) (stage_of s.kind) list (front columns)
    front_on false columns = front columns

live_read : (ss : List Stage) (list : List Cell) → AreUnmarkedRead ss list → AreUnmarkedRead ss (live list)
unfolding live
live_read ss list h = all_filter (IsUnmarkedRead ss) (is_live list) list h

mark_read : (ss : List Stage) (list : List Cell) → AreUnmarkedRead ss list → AreUnmarkedRead ss (mark list)
unfolding mark
mark_read ss list h = all_kept (IsUnmarkedRead ss) is_unmarked [] list h

bottom_read : (usage : Usage) (ss : List Stage) (list : List Cell) → AreUnmarkedRead ss list → AreUnmarkedRead ss (bottom_cells usage list)
bottom_read Scan ss list h = live_read ss list h
bottom_read Minc ss list h = mark_read ss list h
bottom_read MajcPart ss list h = mark_read ss list h
bottom_read MajcFull ss list h = live_read ss list h
bottom_read Pack ss list h = live_read ss list h

live_front : (list : List Cell) (listed : Cell → Bool) → AreInFront listed [] (live list)
live_front list listed = AreInFront-plain listed [] (live list) (λ e. refl) (live_plain list)

bottom_front : (usage : Usage) (list : List Cell) (listed : Cell → Bool) → AreInFront listed [] (bottom_cells usage list)
bottom_front Scan list listed = live_front list listed
bottom_front Minc list listed = AreInFront-mark listed list
bottom_front MajcPart list listed = AreInFront-mark listed list
bottom_front MajcFull list listed = live_front list listed
bottom_front Pack list listed = live_front list listed

bottom_plain : (usage : Usage) (list : List Cell) → usage ≡ Scan → NoMarkers (bottom_cells usage list)
bottom_plain usage list scan = subst (λ u. NoMarkers (bottom_cells u list)) (sym scan) (live_plain list)

pub all_taken : (usage : Usage) (c : Settings) → IsConfig c → (list : List Cell) → AreUnmarkedRead (stages_of c) list → AllTake usage c.iterators (bottom_cells usage list)
all_taken usage c config list read =
    let specs = c.iterators in
    let rules = config.iterators in
    takes_all usage specs (map_all AreFields (λ s. IsLimited s.kind) (λ s k. k.kind) specs (recursion_from_All AreFields specs rules.limits)) (recursion_from_All (λ s. leaves_scans s ≡ false) specs rules.in_scans) rules.uncombined rules.apart (bottom_cells usage list) (λ scan. bottom_plain usage list scan) (bottom_read usage (stages_of c) list read) (λ columns. bottom_front usage list (column_listed columns))
