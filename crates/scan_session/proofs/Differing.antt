-- Lists of entries whose keys are all different, and the iterators that keep them so.
use Rattle.std.proofs.Common.{◌≡◌, Bool, true, false, cond, ℕ, List, [], ◌∷◌, map, refl, sym, ap, ◌∙◌, arith, Ordering, Equal, Less}
use Rattle.std.specs.List.{AllByRecursion, IsDistinct, list_any}
use Rattle.std.specs.Ordering.{eq_by_cmp, is_eq, ordering_reverse, ordering_then}
use Rattle.std.proofs.lemmas.Cmp.{nat_list_cmp_total, tied_itself}
use Rattle.tablet_model.specs.Cell.{Cell}
use Rattle.tablet_model.specs.Combines.{combine_columns, leads, with_joined_value}
use Rattle.tablet_model.specs.Filters.{filter_puts}
use Rattle.tablet_model.specs.Kept.{filter_beside}
use Rattle.tablet_model.specs.Order.{above, bytes_cmp, key_cmp}
use Rattle.tablet_model.specs.Reductions.{Reduction}
use Rattle.tablet_model.specs.Rows.{intersect, intersect_terms, last_time, leads_hit, leads_row, row_entry, same_bytes, same_row, whole_row}
use Rattle.tablet_model.specs.RowText.{row_text, whole_rows}
use Rattle.tablet_model.specs.Sorted.{Ascends, put, sorted}
use Rattle.tablet_model.specs.Stages.{stage, stages}
use Rattle.tablet_model.specs.Versions.{is_recent, versions}
use Rattle.tablet_model.proofs.Bools.{false-of-not, neither-of-or, never-both}
use Rattle.tablet_model.proofs.Maps.{all_map}
use Rattle.tablet_model.proofs.Merges.{all_sorted}
use Rattle.tablet_model.proofs.Orders.{above_exact, exact_keys, key_total}
use Rattle.tablet_model.proofs.Risings.{all_kept}
use Rattle.tablet_model.proofs.Sums.{all_put, all_weaker}
use Rattle.cell_key.specs.Listed.{column_listed}
use Rattle.iter_config.specs.Predicates.{keeps}
use Rattle.iter_config.specs.Stages.{stage_list, stage_of}
use Rattle.iter_config.specs.declared.iter_spec.IterSpec.{IterSpec}
use Rattle.iter_config.specs.declared.iter_spec.Kind.{Kind}
use Rattle.iter_config.specs.declared.iter_spec.Kind.TheVariants.{Filter, Versions, Combine, WholeRow, Intersecting}
use Rattle.iter_config.proofs.FilterStages.{filter_is}
use Rattle.intersecting.specs.Documents.{document_entry}
use Rattle.intersecting.specs.IntersectLaws.{Rises, kept_rises}
use Rattle.intersecting.specs.Searches.{document_cmp}
use Rattle.scan_session.specs.Keys.{KeysDiffer}
use Rattle.scan_session.specs.Takes.{plain, together}
use Rattle.scan_session.proofs.Pairs.{IsDistinct-filter, IsDistinct-map}
use Rattle.scan_session.proofs.SessionWalks.{kind_ascends}

tie : (o : Ordering) → is_eq o ≡ true → o ≡ Equal
tie o h = grind arith

-- entries that can't have one key are apart
pub apart_by : (a b : Cell) → (a.key ≡ b.key → ⊥) → together plain a b ≡ false
unfolding together
apart_by a b wrong = by_answer (together plain a b) refl
  where
    by_answer : (t : Bool) → together plain a b ≡ t → t ≡ false
    by_answer false e = refl
    by_answer true e = absurd (wrong (exact_keys a.key b.key (tie (key_cmp a.key b.key) e)))

untied_back : (p q : Ordering) → p ≡ ordering_reverse q → is_eq p ≡ false → is_eq q ≡ false
untied_back p q e h = grind arith

apart_back : (a b : Cell) → together plain a b ≡ false → together plain b a ≡ false
unfolding together
apart_back a b h = untied_back (key_cmp a.key b.key) (key_cmp b.key a.key) (key_total.antisymm a.key b.key) h

-- ---- in order

put_differs : (x : Cell) (ys : List Cell) → AllByRecursion (λ y. together plain x y ≡ false) ys → KeysDiffer ys → KeysDiffer (put above x ys)
unfolding IsDistinct put
put_differs x [] h d = (tt, tt)
put_differs x (y ∷ ys) h d =
    by_answer (above x y) (all_put above above_exact (λ z. together plain y z ≡ false) x ys (apart_back x y h.0) d.0) (put_differs x ys h.1 d.1)
  where
    by_answer : (b : Bool) → AllByRecursion (λ z. together plain y z ≡ false) (put above x ys) → KeysDiffer (put above x ys)
        → KeysDiffer (cond b (y ∷ put above x ys) (x ∷ y ∷ ys))
    by_answer true others rest = (others, rest)
    by_answer false others rest = (h, d)

pub sorted_differs : (xs : List Cell) → KeysDiffer xs → KeysDiffer (sorted above xs)
unfolding IsDistinct sorted
sorted_differs [] d = tt
sorted_differs (x ∷ xs) d =
    put_differs x (sorted above xs) (all_sorted above above_exact (λ y. together plain x y ≡ false) xs d.0) (sorted_differs xs d.1)

-- ---- iterators that keep entries, or their keys

kept_differ : (keeps : List Cell → Cell → Bool) (before list : List Cell) → KeysDiffer list → KeysDiffer (filter_beside keeps before list)
unfolding IsDistinct filter_beside
kept_differ keeps before [] d = tt
kept_differ keeps before (e ∷ es) d =
    by_answer (keeps before e) (all_kept (λ y. together plain e y ≡ false) keeps (e ∷ before) es d.0) (kept_differ keeps (e ∷ before) es d.1)
  where
    rest : List Cell
    rest = filter_beside keeps (e ∷ before) es

    by_answer : (b : Bool) → AllByRecursion (λ y. together plain e y ≡ false) rest → KeysDiffer rest → KeysDiffer (cond b (e ∷ rest) rest)
    by_answer true others k = (others, k)
    by_answer false others k = k

-- an entry with the joined value has its own key
joined_key : (listed : Cell → Bool) (r : Reduction) (list : List Cell) (e : Cell) → (with_joined_value listed r list e).key ≡ e.key
unfolding with_joined_value
joined_key listed r list e = by_answer _ _
  where
    by_answer : (b : Bool) (value : List ℕ) → (cond b (record { key = e.key; value = value }) e).key ≡ e.key
    by_answer true value = refl
    by_answer false value = refl

combined_differ : (listed : Cell → Bool) (r : Reduction) (list : List Cell) → KeysDiffer list → KeysDiffer (combine_columns listed r list)
unfolding combine_columns together
combined_differ listed r list d =
    IsDistinct-map (together plain) (together plain) (with_joined_value listed r list)
    (λ x y h. ap (λ k. eq_by_cmp key_cmp k (with_joined_value listed r list y).key) (joined_key listed r list x)
    ∙ ap (eq_by_cmp key_cmp x.key) (joined_key listed r list y) ∙ h)
    (filter_beside (leads listed) [] list) (kept_differ (leads listed) [] list d)

-- ---- one entry a row

pub none_passes : {X : Type 0} (p : X → Bool) (xs : List X) → list_any p xs ≡ false → AllByRecursion (λ x. p x ≡ false) xs
none_passes p [] h = tt
none_passes p (x ∷ xs) h = let k = neither-of-or (p x) (list_any p xs) h in (k.0, none_passes p xs k.1)

-- what leads its row is of other rows than all before it
rows_before : (before list : List Cell) → AllByRecursion (λ y. AllByRecursion (λ b. same_row y b ≡ false) before) (filter_beside leads_row before list)
unfolding filter_beside leads_row
rows_before before [] = tt
rows_before before (e ∷ es) =
    by_answer (leads_row before e) refl
    (all_weaker (λ y. AllByRecursion (λ b. same_row y b ≡ false) (e ∷ before)) (λ y. AllByRecursion (λ b. same_row y b ≡ false) before) (λ y a. a.1) rest
    (rows_before (e ∷ before) es))
  where
    rest : List Cell
    rest = filter_beside leads_row (e ∷ before) es

    by_answer : (b : Bool) → leads_row before e ≡ b → AllByRecursion (λ y. AllByRecursion (λ b. same_row y b ≡ false) before) rest
        → AllByRecursion (λ y. AllByRecursion (λ b. same_row y b ≡ false) before) (cond b (e ∷ rest) rest)
    by_answer true h k = (none_passes (same_row e) before (false-of-not _ h), k)
    by_answer false h k = k

rows_lead : (before list : List Cell) → IsDistinct (λ a b. same_row b a) (filter_beside leads_row before list)
unfolding filter_beside IsDistinct
rows_lead before [] = tt
rows_lead before (e ∷ es) =
    by_answer (leads_row before e)
    (all_weaker (λ y. AllByRecursion (λ b. same_row y b ≡ false) (e ∷ before)) (λ y. same_row y e ≡ false) (λ y a. a.0) rest
    (rows_before (e ∷ before) es))
    (rows_lead (e ∷ before) es)
  where
    rest : List Cell
    rest = filter_beside leads_row (e ∷ before) es

    by_answer : (b : Bool) → AllByRecursion (λ y. same_row y e ≡ false) rest → IsDistinct (λ a b. same_row b a) rest
        → IsDistinct (λ a b. same_row b a) (cond b (e ∷ rest) rest)
    by_answer true others k = (others, k)
    by_answer false others k = k

rows_apart : (list : List Cell) (x y : Cell) → same_row y x ≡ false
    → together plain (row_entry last_time row_text list x) (row_entry last_time row_text list y) ≡ false
unfolding row_entry same_row same_bytes
rows_apart list x y h =
    apart_by (row_entry last_time row_text list x) (row_entry last_time row_text list y)
    (λ k. never-both _ (ap (λ k. is_eq (bytes_cmp k.row x.key.row)) (sym k) ∙ ap is_eq (tied_itself nat_list_cmp_total x.key.row)) h)

rows_differ : (list : List Cell) → KeysDiffer (whole_rows list)
unfolding whole_row
rows_differ list =
    IsDistinct-map (λ a b. same_row b a) (together plain) (row_entry last_time row_text list) (rows_apart list)
    (filter_beside leads_row [] list) (rows_lead [] list)

-- ---- one entry a document

less_is_no_tie : (o : Ordering) → o ≡ Less → o ≡ Equal → ⊥
less_is_no_tie o h k = grind arith

documents_apart : (x y : Cell) → document_cmp x.key y.key ≡ Less → together plain (document_entry x) (document_entry y) ≡ false
unfolding document_cmp
documents_apart x y h =
    apart_by (document_entry x) (document_entry y) (λ k. less_is_no_tie (document_cmp x.key y.key) h
    (ap (λ k. ordering_then (bytes_cmp x.key.row k.row) (bytes_cmp x.key.qualifier k.qualifier)) (sym k)
    ∙ ap (λ o. ordering_then o (bytes_cmp x.key.qualifier x.key.qualifier)) (tied_itself nat_list_cmp_total x.key.row)
    ∙ tied_itself nat_list_cmp_total x.key.qualifier))

entries_differ : (xs : List Cell) → Rises xs → KeysDiffer (map document_entry xs)
unfolding IsDistinct
entries_differ [] r = tt
entries_differ (x ∷ xs) r = (
  all_map (λ y. document_cmp x.key y.key ≡ Less) (λ y. together plain (document_entry x) y ≡ false) document_entry (documents_apart x) xs r.0,
  entries_differ xs r.1,
)

documents_differ : (terms without : List (List ℕ)) (list : List Cell) → Ascends above list → KeysDiffer (intersect_terms terms without list)
unfolding intersect_terms intersect IsDistinct
documents_differ [] without list up = tt
documents_differ (first ∷ others) without list up =
    entries_differ (filter_beside (leads_hit first others without list) [] list) (kept_rises first others without list [] list up)

-- ---- all iterators

kind_differs : (kind : Kind) (list : List Cell) → Ascends above list → KeysDiffer list → KeysDiffer (stage (stage_of kind) list)
unfolding stage filter_puts versions
kind_differs (Filter p negate) list up d =
    filter_is (λ s. KeysDiffer (stage s list)) p negate (λ e. IsDistinct-filter (together plain) _ list d) (λ e. IsDistinct-filter (together plain) _ list d)
kind_differs (Versions max) list up d = kept_differ (is_recent max) [] list d
kind_differs (Combine op columns encoding deletes) list up d = combined_differ (column_listed columns) _ list d
kind_differs WholeRow list up d = rows_differ list
kind_differs (Intersecting terms without) list up d = documents_differ terms without list up

pub all_differ : (specs : List IterSpec) (list : List Cell) → Ascends above list → KeysDiffer list → KeysDiffer (stages (stage_list specs) list)
unfolding stages
all_differ [] list up d = d
all_differ (s ∷ ss) list up d =
    all_differ ss (stage (stage_of s.kind) list) (kind_ascends s.kind list up) (kind_differs s.kind list up d)
