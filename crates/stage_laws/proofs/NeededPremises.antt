-- Why the laws of compactions have their premises: for each a few entries for which the law's two sides differ, and that the law without it,
-- but with all its other premises, is false.
use Rattle.std.proofs.Common.{◌≡◌, ◌<◌, not, ℕ, pos, Bool, true, false, cond, List, [], ◌∷◌, ◌++◌, length, zero, suc, replicate, Some, refl, sym, ap, ◌∙◌, codes, bytes_eq, inl, arith}
use Rattle.std.specs.List.{AllByRecursion, filter, list_any}
use Rattle.tablet_model.specs.Cell.{Cell}
use Rattle.tablet_model.specs.Order.{column_cmp, time_cmp, key_cmp, cell_cmp, above, same_column}
use Rattle.tablet_model.specs.Sorted.{put, sorted, Ascends}
use Rattle.tablet_model.specs.Sum.{sum_of}
use Rattle.tablet_model.specs.Kept.{filter_beside}
use Rattle.tablet_model.specs.Markers.{marker_beside, put_beside, hides, is_live, live, is_unmarked, mark}
use Rattle.tablet_model.specs.Versions.{is_recent, versions}
use Rattle.tablet_model.specs.Reductions.{Reduction, IsLawful, join_from, reduce_values}
use Rattle.tablet_model.specs.Combines.{leads, joined_value, with_joined_value, combine_columns}
use Rattle.tablet_model.specs.Stages.{Stage, newest, combine, intersect, stage, stages}
use Rattle.tablet_model.specs.Accepted.{IsOfColumns, KeepsKeys, AreAccepted, AreDeletable, IsNotNewest, is_full}
use Rattle.tablet_model.specs.Reading.{AreUnmarkedRead}
use Rattle.tablet_model.specs.Ages.{AreApart, AreNewer, HasPlainMarkers}
use Rattle.tablet_model.specs.Families.{is_in}
use Rattle.tablet_model.specs.Rows.{same_bytes, same_row, has_term, is_hit, leads_hit, intersect as documents, intersect_terms}
use Rattle.tablet_model.specs.Compactions.{partial_stages, minor_compaction, partial_compaction, full_compaction}
use Rattle.tablet_model.proofs.ExampleCells.{differ, entry, not_empty, one_none, put_x, marker_x, is_count, of_counts, marks, tally, tally_lawful}
use Rattle.stage_laws.proofs.Whole.{families_columns}

-- a combiner of all columns, that may have deletes or refuses them
abbrev counting : Bool → List Stage
counting full = combine (λ e. true) tally full ∷ []

-- a scan of two parts
abbrev scan : List Stage → List Cell → List Cell → List Cell
scan ss a x = stages ss (live (sum_of a x))

-- two puts, and a marker whose time lies between theirs
abbrev puts : List Cell
puts = put_x 3 (codes "|") ∷ put_x 1 (codes "|") ∷ []

abbrev marker_between : List Cell
marker_between = marker_x 2 ∷ []

no_bool : false ≡ true → ⊥
no_bool h = grind arith

-- the other premises hold of them: the stages are accepted, the part is in order, and values are read
accepted : (full : Bool) → AreAccepted (counting full)
accepted full = (((λ c e h. refl), tally_lawful), (tt, tt))

in_order : Ascends above puts
unfolding Ascends above cell_cmp key_cmp column_cmp time_cmp
in_order = ((refl, tt), (tt, tt))

alone : (e : Cell) → Ascends above (e ∷ [])
unfolding Ascends
alone e = (tt, tt)

nothing_in_order : Ascends above []
unfolding Ascends
nothing_in_order = tt

puts_read : (full : Bool) → AreUnmarkedRead (counting full) puts
puts_read full = ((λ d. ((λ l. refl), tt)), ((λ d. ((λ l. refl), tt)), tt))

two_one : length (codes "||") ≡ length (codes "|") → ⊥
two_one h = omega arith

marker_read : (full : Bool) → AreUnmarkedRead (counting full) marker_between
marker_read full = ((λ d. ((λ l. refl), tt)), tt)

-- minor: the others' markers are newer than the whole part, or older; else what is joined early is not hidden
a_marker_in_the_middle_of_a_minor_compaction : (scan (counting true) (minor_compaction (counting true) puts) marker_between ≡ put_x 3 (codes "||") ∷ [])
    × (scan (counting true) puts marker_between ≡ put_x 3 (codes "|") ∷ [])
unfolding stages stage sum_of sorted put above cell_cmp key_cmp column_cmp time_cmp combine_columns filter_beside leads with_joined_value joined_value put_beside same_column reduce_values join_from mark is_unmarked marker_beside live is_live hides
a_marker_in_the_middle_of_a_minor_compaction = (refl, refl)

minor_without_it_is_false : ((ps qs : List Stage) (a x : List Cell) → AreAccepted (ps ++ qs) → Ascends above a → AreUnmarkedRead (ps ++ qs) a → AreUnmarkedRead (ps ++ qs) x → scan (ps ++ qs) (minor_compaction ps a) x ≡ scan (ps ++ qs) a x) → ⊥
minor_without_it_is_false law = let p = a_marker_in_the_middle_of_a_minor_compaction in differ (codes "||") (codes "|") 3 two_one (sym p.0 ∙ law (counting true) [] puts marker_between (accepted true) in_order (puts_read true) (marker_read true) ∙ p.1)

-- and markers stand in plain columns: in others their times are not compared, so the same entries are apart
markers_in_other_columns_are_not_compared : AreApart (λ e. false) marker_between puts
markers_in_other_columns_are_not_compared = ((λ d. inl ((λ p. absurd (no_bool p)), ((λ p. absurd (no_bool p)), tt))), tt)

minor_with_other_markers_is_false : ((plain : Cell → Bool) → IsOfColumns plain → (ps qs : List Stage) (a x : List Cell) → AreAccepted (ps ++ qs) → Ascends above a → AreUnmarkedRead (ps ++ qs) a → AreUnmarkedRead (ps ++ qs) x → AreApart plain x a → scan (ps ++ qs) (minor_compaction ps a) x ≡ scan (ps ++ qs) a x) → ⊥
minor_with_other_markers_is_false law = let p = a_marker_in_the_middle_of_a_minor_compaction in differ (codes "||") (codes "|") 3 two_one (sym p.0 ∙ law (λ e. false) (λ c e h. refl) (counting true) [] puts marker_between (accepted true) in_order (puts_read true) (marker_read true) markers_in_other_columns_are_not_compared ∙ p.1)

-- partial: the others have no marker in a column whose combiner refuses deletes
a_marker_in_a_column_that_refuses_deletes : (scan (counting false) (partial_compaction (counting false) puts) marker_between ≡ put_x 3 (codes "||") ∷ [])
    × (scan (counting false) puts marker_between ≡ put_x 3 (codes "|") ∷ [])
unfolding stages stage sum_of sorted put above cell_cmp key_cmp column_cmp time_cmp combine_columns filter_beside leads with_joined_value joined_value put_beside same_column reduce_values join_from mark is_unmarked marker_beside live is_live hides partial_stages
a_marker_in_a_column_that_refuses_deletes = (refl, refl)

partial_without_it_is_false : ((ps qs : List Stage) (a x : List Cell) → AreAccepted (ps ++ qs) → (list_any is_full ps ≡ true → AllByRecursion IsNotNewest ps) → Ascends above a → AreUnmarkedRead (ps ++ qs) a → AreUnmarkedRead (ps ++ qs) x → scan (ps ++ qs) (partial_compaction ps a) x ≡ scan (ps ++ qs) a x) → ⊥
partial_without_it_is_false law = let p = a_marker_in_a_column_that_refuses_deletes in differ (codes "||") (codes "|") 3 two_one (sym p.0 ∙ law (counting false) [] puts marker_between (accepted false) (λ h. (tt, tt)) in_order (puts_read false) (marker_read false) ∙ p.1)

-- and it leaves the combiners out whose columns may have deletes: all stages would join what a marker elsewhere hides
a_partial_compaction_that_runs_all_stages : (scan (counting true) (stages (counting true) (mark puts)) marker_between ≡ put_x 3 (codes "||") ∷ [])
    × (scan (counting true) (partial_compaction (counting true) puts) marker_between ≡ put_x 3 (codes "|") ∷ [])
    × (scan (counting true) puts marker_between ≡ put_x 3 (codes "|") ∷ [])
unfolding stages stage sum_of sorted put above cell_cmp key_cmp column_cmp time_cmp combine_columns filter_beside leads with_joined_value joined_value put_beside same_column reduce_values join_from mark is_unmarked marker_beside live is_live hides partial_stages
a_partial_compaction_that_runs_all_stages = (refl, refl, refl)

-- there the marker stands in a column that may have one
the_marker_is_in_its_place : AreDeletable (counting true) marker_between
the_marker_is_in_its_place = ((λ d. ((λ f. absurd (no_bool (sym f))), tt)), tt)

-- and where it leaves one out it counts no versions: those that it dropped were never joined
abbrev counting_and_newest : List Stage
counting_and_newest = combine (λ e. true) tally true ∷ newest 1 ∷ []

they_are_accepted : AreAccepted counting_and_newest
they_are_accepted = (((λ c e h. refl), tally_lawful), ((tt, tt), (one, (tt, tt))))
  where
    one : 0 < 1
    one = omega arith

versions_beside_a_combiner_that_is_left_out : (scan counting_and_newest (partial_compaction counting_and_newest puts) [] ≡ put_x 3 (codes "|") ∷ [])
    × (scan counting_and_newest puts [] ≡ put_x 3 (codes "||") ∷ [])
unfolding stages stage sum_of sorted put above cell_cmp key_cmp column_cmp time_cmp combine_columns filter_beside leads with_joined_value joined_value put_beside same_column reduce_values join_from mark is_unmarked marker_beside live is_live hides partial_stages versions is_recent
versions_beside_a_combiner_that_is_left_out = (refl, refl)

partial_with_versions_is_false : ((ps qs : List Stage) (a x : List Cell) → AreAccepted (ps ++ qs) → Ascends above a → AreUnmarkedRead (ps ++ qs) a → AreUnmarkedRead (ps ++ qs) x → AreDeletable ps x → scan (ps ++ qs) (partial_compaction ps a) x ≡ scan (ps ++ qs) a x) → ⊥
partial_with_versions_is_false law = let p = versions_beside_a_combiner_that_is_left_out in differ (codes "||") (codes "|") 3 two_one (sym p.1 ∙ sym (law counting_and_newest [] puts [] they_are_accepted in_order ((λ d. ((λ l. refl), (tt, tt))), ((λ d. ((λ l. refl), (tt, tt))), tt)) tt tt) ∙ p.0)

-- full: all others are newer; a marker that is dropped no longer hides what is older elsewhere
an_older_entry_outside_a_full_compaction : (scan [] (full_compaction [] marker_between) (put_x 1 (codes "a") ∷ []) ≡ put_x 1 (codes "a") ∷ [])
    × (scan [] marker_between (put_x 1 (codes "a") ∷ []) ≡ [])
unfolding stages sum_of sorted put above cell_cmp key_cmp column_cmp time_cmp same_column marker_beside live is_live hides
an_older_entry_outside_a_full_compaction = (refl, refl)

full_without_it_is_false : ((plain : Cell → Bool) → IsOfColumns plain → (ps qs : List Stage) (a x : List Cell) → AreAccepted (ps ++ qs) → Ascends above a → AreUnmarkedRead (ps ++ qs) a → AreUnmarkedRead (ps ++ qs) x → HasPlainMarkers plain a → HasPlainMarkers plain x → scan (ps ++ qs) (full_compaction ps a) x ≡ scan (ps ++ qs) a x) → ⊥
full_without_it_is_false law = let p = an_older_entry_outside_a_full_compaction in not_empty (put_x 1 (codes "a")) (sym p.0 ∙ law (λ e. true) (λ c e h. refl) [] [] marker_between (put_x 1 (codes "a") ∷ []) tt (alone (marker_x 2)) ((λ d. tt), tt) ((λ d. tt), tt) ((λ d. refl), tt) ((λ d. refl), tt) ∙ p.1)

-- a newer mutation: two lists of one answer, and an entry that is older than a marker of one of them
an_older_entry_tells_equal_answers_apart : (scan [] marker_between [] ≡ [])
    × (scan [] [] [] ≡ [])
    × (scan [] marker_between (put_x 1 (codes "a") ∷ []) ≡ [])
    × (scan [] [] (put_x 1 (codes "a") ∷ []) ≡ put_x 1 (codes "a") ∷ [])
unfolding stages sum_of sorted put above cell_cmp key_cmp column_cmp time_cmp same_column marker_beside live is_live hides
an_older_entry_tells_equal_answers_apart = (refl, refl, refl, refl)

newer_without_it_is_false : ((plain : Cell → Bool) → IsOfColumns plain → (ss : List Stage) (u w v : List Cell) → AreAccepted ss → Ascends above u → Ascends above w → AreUnmarkedRead ss u → AreUnmarkedRead ss w → AreUnmarkedRead ss v → HasPlainMarkers plain u → HasPlainMarkers plain w → HasPlainMarkers plain v → scan ss u [] ≡ scan ss w [] → scan ss u v ≡ scan ss w v) → ⊥
newer_without_it_is_false law = let p = an_older_entry_tells_equal_answers_apart in not_empty (put_x 1 (codes "a")) (sym p.3 ∙ sym (law (λ e. true) (λ c e h. refl) [] marker_between [] (put_x 1 (codes "a") ∷ []) tt (alone (marker_x 2)) nothing_in_order ((λ d. tt), tt) tt ((λ d. tt), tt) ((λ d. refl), tt) tt ((λ d. refl), tt) (p.0 ∙ sym p.1)) ∙ p.2)

-- markers stand in plain columns: in others their times are not compared, so what is older counts as newer
full_with_other_markers_in_the_part_is_false : ((plain : Cell → Bool) → IsOfColumns plain → (ps qs : List Stage) (a x : List Cell) → AreAccepted (ps ++ qs) → Ascends above a → AreUnmarkedRead (ps ++ qs) a → AreUnmarkedRead (ps ++ qs) x → HasPlainMarkers plain x → AreNewer plain x a → scan (ps ++ qs) (full_compaction ps a) x ≡ scan (ps ++ qs) a x) → ⊥
full_with_other_markers_in_the_part_is_false law = let p = an_older_entry_outside_a_full_compaction in not_empty (put_x 1 (codes "a")) (sym p.0 ∙ law (λ e. false) (λ c e h. refl) [] [] marker_between (put_x 1 (codes "a") ∷ []) tt (alone (marker_x 2)) ((λ d. tt), tt) ((λ d. tt), tt) ((λ d. absurd (no_bool d)), tt) ((λ d. absurd (no_bool d)), tt) ∙ p.1)

nothing_lives : stages [] (live marker_between) ≡ stages [] (live [])
unfolding stages live is_live
nothing_lives = refl

newer_with_other_markers_is_false : ((plain : Cell → Bool) → IsOfColumns plain → (ss : List Stage) (u w v : List Cell) → AreAccepted ss → Ascends above u → Ascends above w → AreUnmarkedRead ss u → AreUnmarkedRead ss w → AreUnmarkedRead ss v → HasPlainMarkers plain w → HasPlainMarkers plain v → AreNewer plain v u → AreNewer plain v w → stages ss (live u) ≡ stages ss (live w) → scan ss u v ≡ scan ss w v) → ⊥
newer_with_other_markers_is_false law = let p = an_older_entry_tells_equal_answers_apart in not_empty (put_x 1 (codes "a")) (sym p.3 ∙ sym (law (λ e. false) (λ c e h. refl) [] marker_between [] (put_x 1 (codes "a") ∷ []) tt (alone (marker_x 2)) nothing_in_order ((λ d. tt), tt) tt ((λ d. tt), tt) tt ((λ d. absurd (no_bool d)), tt) ((λ d. absurd (no_bool d)), tt) ((λ d. absurd (no_bool d)), tt) nothing_lives) ∙ p.2)

-- so too a marker outside, or one that comes: what was joined before it came is not hidden
abbrev joined_puts : List Cell
joined_puts = put_x 3 (codes "||") ∷ []

a_marker_behind_what_was_joined : (scan (counting true) (full_compaction (counting true) puts) marker_between ≡ put_x 3 (codes "||") ∷ [])
    × (scan (counting true) puts marker_between ≡ put_x 3 (codes "|") ∷ [])
    × (scan (counting true) joined_puts marker_between ≡ put_x 3 (codes "||") ∷ [])
    × (stages (counting true) (live puts) ≡ put_x 3 (codes "||") ∷ [])
    × (stages (counting true) (live joined_puts) ≡ put_x 3 (codes "||") ∷ [])
unfolding stages stage sum_of sorted put above cell_cmp key_cmp column_cmp time_cmp combine_columns filter_beside leads with_joined_value joined_value put_beside same_column reduce_values join_from marker_beside live is_live hides
a_marker_behind_what_was_joined = (refl, refl, refl, refl, refl)

full_with_other_markers_outside_is_false : ((plain : Cell → Bool) → IsOfColumns plain → (ps qs : List Stage) (a x : List Cell) → AreAccepted (ps ++ qs) → Ascends above a → AreUnmarkedRead (ps ++ qs) a → AreUnmarkedRead (ps ++ qs) x → HasPlainMarkers plain a → AreNewer plain x a → scan (ps ++ qs) (full_compaction ps a) x ≡ scan (ps ++ qs) a x) → ⊥
full_with_other_markers_outside_is_false law = let p = a_marker_behind_what_was_joined in differ (codes "||") (codes "|") 3 two_one (sym p.0 ∙ law (λ e. false) (λ c e h. refl) (counting true) [] puts marker_between (accepted true) in_order (puts_read true) (marker_read true) ((λ d. absurd (no_bool d)), ((λ d. absurd (no_bool d)), tt)) ((λ d. absurd (no_bool d)), tt) ∙ p.1)

a_newer_marker_elsewhere_is_false : ((plain : Cell → Bool) → IsOfColumns plain → (ss : List Stage) (u w v : List Cell) → AreAccepted ss → Ascends above u → Ascends above w → AreUnmarkedRead ss u → AreUnmarkedRead ss w → AreUnmarkedRead ss v → HasPlainMarkers plain u → HasPlainMarkers plain w → AreNewer plain v u → AreNewer plain v w → stages ss (live u) ≡ stages ss (live w) → scan ss u v ≡ scan ss w v) → ⊥
a_newer_marker_elsewhere_is_false law = let p = a_marker_behind_what_was_joined in differ (codes "||") (codes "|") 3 two_one (sym p.2 ∙ sym (law (λ e. false) (λ c e h. refl) (counting true) puts joined_puts marker_between (accepted true) in_order (alone (put_x 3 (codes "||"))) (puts_read true) ((λ d. ((λ l. refl), tt)), tt) (marker_read true) ((λ d. absurd (no_bool d)), ((λ d. absurd (no_bool d)), tt)) ((λ d. absurd (no_bool d)), tt) ((λ d. absurd (no_bool d)), tt) ((λ d. absurd (no_bool d)), tt) (p.3 ∙ sym p.4)) ∙ p.1)

-- the part is in order: else `mark` takes the newest entry for one behind a marker
a_part_out_of_order : (live (sum_of (mark (marker_x 2 ∷ put_x 3 (codes "|") ∷ [])) []) ≡ [])
    × (live (sum_of (marker_x 2 ∷ put_x 3 (codes "|") ∷ []) []) ≡ put_x 3 (codes "|") ∷ [])
unfolding sum_of sorted put above cell_cmp key_cmp column_cmp time_cmp filter_beside same_column mark is_unmarked marker_beside live is_live hides
a_part_out_of_order = (refl, refl)

newest_markers_out_of_order_is_false : ((a x : List Cell) → live (sum_of (mark a) x) ≡ live (sum_of a x)) → ⊥
newest_markers_out_of_order_is_false law = let p = a_part_out_of_order in not_empty (put_x 3 (codes "|")) (sym p.1 ∙ sym (law (marker_x 2 ∷ put_x 3 (codes "|") ∷ []) []) ∙ p.0)

-- minor and partial compactions drop that entry too
abbrev marker_first : List Cell
marker_first = marker_x 2 ∷ put_x 3 (codes "|") ∷ []

compactions_out_of_order : (scan [] (minor_compaction [] marker_first) [] ≡ [])
    × (scan [] (partial_compaction [] marker_first) [] ≡ [])
    × (scan [] marker_first [] ≡ put_x 3 (codes "|") ∷ [])
unfolding stages partial_stages sum_of sorted put above cell_cmp key_cmp column_cmp time_cmp filter_beside same_column mark is_unmarked marker_beside live is_live hides
compactions_out_of_order = (refl, refl, refl)

nothing_to_read : (list : List Cell) → AreUnmarkedRead [] list
nothing_to_read [] = tt
nothing_to_read (e ∷ es) = ((λ d. tt), nothing_to_read es)

minor_out_of_order_is_false : ((plain : Cell → Bool) → IsOfColumns plain → (ps qs : List Stage) (a x : List Cell) → AreAccepted (ps ++ qs) → AreUnmarkedRead (ps ++ qs) a → AreUnmarkedRead (ps ++ qs) x → HasPlainMarkers plain x → AreApart plain x a → scan (ps ++ qs) (minor_compaction ps a) x ≡ scan (ps ++ qs) a x) → ⊥
minor_out_of_order_is_false law = let p = compactions_out_of_order in not_empty (put_x 3 (codes "|")) (sym p.2 ∙ sym (law (λ e. true) (λ c e h. refl) [] [] marker_first [] tt (nothing_to_read marker_first) tt tt tt) ∙ p.0)

partial_out_of_order_is_false : ((ps qs : List Stage) (a x : List Cell) → AreAccepted (ps ++ qs) → (list_any is_full ps ≡ true → AllByRecursion IsNotNewest ps) → AreUnmarkedRead (ps ++ qs) a → AreUnmarkedRead (ps ++ qs) x → AreDeletable ps x → scan (ps ++ qs) (partial_compaction ps a) x ≡ scan (ps ++ qs) a x) → ⊥
partial_out_of_order_is_false law = let p = compactions_out_of_order in not_empty (put_x 3 (codes "|")) (sym p.2 ∙ sym (law [] [] marker_first [] tt (λ h. tt) (nothing_to_read marker_first) tt tt) ∙ p.1)

-- a full one counts versions from the oldest on; and an answer of such a list changes where nothing comes to it
abbrev oldest_first : List Cell
oldest_first = put_x 1 (codes "|") ∷ put_x 3 (codes "||") ∷ []

abbrev one_version : List Stage
one_version = newest 1 ∷ []

versions_accepted : AreAccepted one_version
versions_accepted = (one, (tt, tt))
  where
    one : 0 < 1
    one = omega arith

versions_read : (list : List Cell) → AreUnmarkedRead one_version list
versions_read [] = tt
versions_read (e ∷ es) = ((λ d. (tt, tt)), versions_read es)

versions_out_of_order : (scan one_version (full_compaction one_version oldest_first) [] ≡ put_x 1 (codes "|") ∷ [])
    × (scan one_version oldest_first [] ≡ put_x 3 (codes "||") ∷ [])
    × (stages one_version (live oldest_first) ≡ put_x 1 (codes "|") ∷ [])
    × (stages one_version (live (put_x 1 (codes "|") ∷ [])) ≡ put_x 1 (codes "|") ∷ [])
    × (scan one_version (put_x 1 (codes "|") ∷ []) [] ≡ put_x 1 (codes "|") ∷ [])
unfolding stages stage sum_of sorted put above cell_cmp key_cmp column_cmp time_cmp filter_beside put_beside same_column versions is_recent marker_beside live is_live hides
versions_out_of_order = (refl, refl, refl, refl, refl)

longer : put_x 3 (codes "||") ∷ [] ≡ put_x 1 (codes "|") ∷ [] → ⊥
longer h = two_one (ap first_length h)
  where
    first_length : List Cell → ℕ
    first_length [] = 0
    first_length (e ∷ es) = length e.value

full_out_of_order_is_false : ((plain : Cell → Bool) → IsOfColumns plain → (ps qs : List Stage) (a x : List Cell) → AreAccepted (ps ++ qs) → AreUnmarkedRead (ps ++ qs) a → AreUnmarkedRead (ps ++ qs) x → HasPlainMarkers plain a → HasPlainMarkers plain x → AreNewer plain x a → scan (ps ++ qs) (full_compaction ps a) x ≡ scan (ps ++ qs) a x) → ⊥
full_out_of_order_is_false law = let p = versions_out_of_order in longer (sym p.1 ∙ sym (law (λ e. true) (λ c e h. refl) one_version [] oldest_first [] versions_accepted (versions_read oldest_first) tt ((λ d. refl), ((λ d. refl), tt)) tt tt) ∙ p.0)

newer_out_of_order_is_false : ((plain : Cell → Bool) → IsOfColumns plain → (ss : List Stage) (u w v : List Cell) → AreAccepted ss → Ascends above w → AreUnmarkedRead ss u → AreUnmarkedRead ss w → AreUnmarkedRead ss v → HasPlainMarkers plain u → HasPlainMarkers plain w → HasPlainMarkers plain v → AreNewer plain v u → AreNewer plain v w → stages ss (live u) ≡ stages ss (live w) → scan ss u v ≡ scan ss w v) → ⊥
newer_out_of_order_is_false law = let p = versions_out_of_order in longer (sym p.1 ∙ law (λ e. true) (λ c e h. refl) one_version oldest_first (put_x 1 (codes "|") ∷ []) [] versions_accepted (alone (put_x 1 (codes "|"))) (versions_read oldest_first) (versions_read (put_x 1 (codes "|") ∷ [])) tt ((λ d. refl), ((λ d. refl), tt)) ((λ d. refl), tt) tt tt tt (p.2 ∙ sym p.3) ∙ p.4)

-- families are columns: a restriction by values does not commute with versions
abbrev has_a : Cell → Bool
has_a e = bytes_eq e.value (codes "a")

a_restriction_by_values : (filter has_a (stages (newest 1 ∷ []) (live (put_x 2 (codes "b") ∷ put_x 1 (codes "a") ∷ []))) ≡ [])
    × (stages (newest 1 ∷ []) (live (filter has_a (put_x 2 (codes "b") ∷ put_x 1 (codes "a") ∷ []))) ≡ put_x 1 (codes "a") ∷ [])
unfolding stages stage filter_beside put_beside same_column column_cmp versions is_recent marker_beside live is_live hides
a_restriction_by_values = (refl, refl)

restriction_by_values_is_false : ((fam : Cell → Bool) (ss : List Stage) → AllByRecursion KeepsKeys ss → (list : List Cell) → filter fam (stages ss (live list)) ≡ stages ss (live (filter fam list))) → ⊥
restriction_by_values_is_false law = let p = a_restriction_by_values in not_empty (put_x 1 (codes "a")) (sym p.1 ∙ sym (law has_a (newest 1 ∷ []) (tt, tt) (put_x 2 (codes "b") ∷ put_x 1 (codes "a") ∷ [])) ∙ p.0)

-- and the stages show entries under their own keys: an intersection's have no family
abbrev of_family : Cell → Bool
of_family = is_in (Some (codes "n" ∷ []))

abbrev documents_of_n : List Stage
documents_of_n = intersect (codes "n" ∷ []) [] ∷ []

a_restriction_of_documents : (filter of_family (stages documents_of_n (live (put_x 1 (codes "a") ∷ []))) ≡ [])
    × (stages documents_of_n (live (filter of_family (put_x 1 (codes "a") ∷ []))) ≡ entry (codes "r1") [] (codes "x") 9223372036854775807 [] ∷ [])
unfolding stages stage intersect_terms documents leads_hit is_hit has_term same_row same_bytes filter_beside marker_beside live is_live hides same_column
a_restriction_of_documents = (refl, refl)

restriction_of_documents_is_false : ((fam : Cell → Bool) → IsOfColumns fam → (ss : List Stage) (list : List Cell) → filter fam (stages ss (live list)) ≡ stages ss (live (filter fam list))) → ⊥
restriction_of_documents_is_false law = let p = a_restriction_of_documents in not_empty (entry (codes "r1") [] (codes "x") 9223372036854775807 []) (sym p.1 ∙ sym (law of_family (families_columns (Some (codes "n" ∷ []))) documents_of_n (put_x 1 (codes "a") ∷ [])) ∙ p.0)

-- values are read: what a combiner makes of one that it does not read is no value of its own
abbrev strict : Reduction
strict = record tally { reads = λ b. not (bytes_eq b (codes "a")); value = λ b. cond (bytes_eq b (codes "a")) [] (tally.value b) }

abbrev counting_strictly : List Stage
counting_strictly = combine (λ e. true) strict true ∷ []

a_value_that_is_not_read : (scan counting_strictly (minor_compaction counting_strictly (put_x 1 (codes "a") ∷ [])) (put_x 2 (codes "|") ∷ []) ≡ put_x 2 (codes "|") ∷ [])
    × (scan counting_strictly (put_x 1 (codes "a") ∷ []) (put_x 2 (codes "|") ∷ []) ≡ put_x 2 [] ∷ [])
unfolding stages stage sum_of sorted put above cell_cmp key_cmp column_cmp time_cmp combine_columns filter_beside leads with_joined_value joined_value put_beside same_column reduce_values join_from mark is_unmarked marker_beside live is_live hides
a_value_that_is_not_read = (refl, refl)

-- the reduction is a lawful one
no_mark_is_a : (n : ℕ) → bytes_eq (replicate n 124) (codes "a") ≡ false
no_mark_is_a zero = refl
no_mark_is_a (suc n) = refl

strict_lawful : IsLawful strict
strict_lawful = record {
  value_of = λ b h. read (bytes_eq b (codes "a")) b h;
  joined = tally_lawful.joined;
  assoc = tally_lawful.assoc;
  comm = tally_lawful.comm;
  text_read = λ v h. of_counts (λ v. not (bytes_eq (marks v) (codes "a")) ≡ true) (λ n k. ap not (no_mark_is_a n)) v h;
  text_value = λ v h. of_counts (λ v. cond (bytes_eq (marks v) (codes "a")) [] (tally.value (marks v)) ≡ v) (λ n k. ap (λ b. cond b [] (tally.value (marks (pos n ∷ [])))) (no_mark_is_a n) ∙ tally_lawful.text_value (pos n ∷ []) k) v h;
}
  where
    read : (t : Bool) (b : List ℕ) → not t ≡ true → is_count (cond t [] (tally.value b)) ≡ true
    read true b h = absurd (no_bool h)
    read false b h = tally_lawful.value_of b refl

minor_of_unread_values_is_false : ((plain : Cell → Bool) → IsOfColumns plain → (ps qs : List Stage) (a x : List Cell) → AreAccepted (ps ++ qs) → Ascends above a → HasPlainMarkers plain x → AreApart plain x a → scan (ps ++ qs) (minor_compaction ps a) x ≡ scan (ps ++ qs) a x) → ⊥
minor_of_unread_values_is_false law = let p = a_value_that_is_not_read in differ (codes "|") [] 2 one_none (sym p.0 ∙ law (λ e. true) (λ c e h. refl) counting_strictly [] (put_x 1 (codes "a") ∷ []) (put_x 2 (codes "|") ∷ []) (((λ c e h. refl), strict_lawful), (tt, tt)) (alone (put_x 1 (codes "a"))) ((λ d. refl), tt) ((λ d. absurd (no_bool d)), tt) ∙ p.1)

-- so too where a partial compaction keeps the combiner, and where a full one runs it
abbrev refusing_strictly : List Stage
refusing_strictly = combine (λ e. true) strict false ∷ []

refusing_accepted : AreAccepted refusing_strictly
refusing_accepted = (((λ c e h. refl), strict_lawful), (tt, tt))

an_unread_value_in_a_partial_compaction : (scan refusing_strictly (partial_compaction refusing_strictly (put_x 1 (codes "a") ∷ [])) (put_x 2 (codes "|") ∷ []) ≡ put_x 2 (codes "|") ∷ [])
    × (scan refusing_strictly (put_x 1 (codes "a") ∷ []) (put_x 2 (codes "|") ∷ []) ≡ put_x 2 [] ∷ [])
unfolding stages stage sum_of sorted put above cell_cmp key_cmp column_cmp time_cmp combine_columns filter_beside leads with_joined_value joined_value put_beside same_column reduce_values join_from mark is_unmarked marker_beside live is_live hides partial_stages
an_unread_value_in_a_partial_compaction = (refl, refl)

partial_of_unread_values_is_false : ((ps qs : List Stage) (a x : List Cell) → AreAccepted (ps ++ qs) → (list_any is_full ps ≡ true → AllByRecursion IsNotNewest ps) → Ascends above a → AreDeletable ps x → scan (ps ++ qs) (partial_compaction ps a) x ≡ scan (ps ++ qs) a x) → ⊥
partial_of_unread_values_is_false law = let p = an_unread_value_in_a_partial_compaction in differ (codes "|") [] 2 one_none (sym p.0 ∙ law refusing_strictly [] (put_x 1 (codes "a") ∷ []) (put_x 2 (codes "|") ∷ []) refusing_accepted (λ h. (tt, tt)) (alone (put_x 1 (codes "a"))) ((λ d. absurd (no_bool d)), tt) ∙ p.1)

an_unread_value_in_a_full_compaction : (scan refusing_strictly (full_compaction refusing_strictly (put_x 1 (codes "a") ∷ [])) (put_x 2 (codes "|") ∷ []) ≡ put_x 2 (codes "|") ∷ [])
    × (scan refusing_strictly (put_x 1 (codes "a") ∷ []) (put_x 2 (codes "|") ∷ []) ≡ put_x 2 [] ∷ [])
unfolding stages stage sum_of sorted put above cell_cmp key_cmp column_cmp time_cmp combine_columns filter_beside leads with_joined_value joined_value put_beside same_column reduce_values join_from marker_beside live is_live hides
an_unread_value_in_a_full_compaction = (refl, refl)

full_of_unread_values_is_false : ((plain : Cell → Bool) → IsOfColumns plain → (ps qs : List Stage) (a x : List Cell) → AreAccepted (ps ++ qs) → Ascends above a → HasPlainMarkers plain a → HasPlainMarkers plain x → AreNewer plain x a → scan (ps ++ qs) (full_compaction ps a) x ≡ scan (ps ++ qs) a x) → ⊥
full_of_unread_values_is_false law = let p = an_unread_value_in_a_full_compaction in differ (codes "|") [] 2 one_none (sym p.0 ∙ law (λ e. true) (λ c e h. refl) refusing_strictly [] (put_x 1 (codes "a") ∷ []) (put_x 2 (codes "|") ∷ []) refusing_accepted (alone (put_x 1 (codes "a"))) ((λ d. refl), tt) ((λ d. refl), tt) ((λ d. ((λ s. refl), tt)), tt) ∙ p.1)

-- and where a newer entry comes to two lists of one answer
an_unread_value_beside_a_newer_entry : (scan counting_strictly (put_x 1 (codes "a") ∷ []) (put_x 2 (codes "|") ∷ []) ≡ put_x 2 [] ∷ [])
    × (scan counting_strictly (put_x 1 [] ∷ []) (put_x 2 (codes "|") ∷ []) ≡ put_x 2 (codes "|") ∷ [])
    × (stages counting_strictly (live (put_x 1 (codes "a") ∷ [])) ≡ put_x 1 [] ∷ [])
    × (stages counting_strictly (live (put_x 1 [] ∷ [])) ≡ put_x 1 [] ∷ [])
unfolding stages stage sum_of sorted put above cell_cmp key_cmp column_cmp time_cmp combine_columns filter_beside leads with_joined_value joined_value put_beside same_column reduce_values join_from marker_beside live is_live hides
an_unread_value_beside_a_newer_entry = (refl, refl, refl, refl)

newer_of_unread_values_is_false : ((plain : Cell → Bool) → IsOfColumns plain → (ss : List Stage) (u w v : List Cell) → AreAccepted ss → Ascends above u → Ascends above w → HasPlainMarkers plain u → HasPlainMarkers plain w → HasPlainMarkers plain v → AreNewer plain v u → AreNewer plain v w → stages ss (live u) ≡ stages ss (live w) → scan ss u v ≡ scan ss w v) → ⊥
newer_of_unread_values_is_false law = let p = an_unread_value_beside_a_newer_entry in differ (codes "|") [] 2 one_none (sym p.1 ∙ sym (law (λ e. true) (λ c e h. refl) counting_strictly (put_x 1 (codes "a") ∷ []) (put_x 1 [] ∷ []) (put_x 2 (codes "|") ∷ []) (((λ c e h. refl), strict_lawful), (tt, tt)) (alone (put_x 1 (codes "a"))) (alone (put_x 1 [])) ((λ d. refl), tt) ((λ d. refl), tt) ((λ d. refl), tt) ((λ d. ((λ s. refl), tt)), tt) ((λ d. ((λ s. refl), tt)), tt) (p.2 ∙ sym p.3)) ∙ p.0)

-- early stages: values are read, and the part is in order
an_unread_value_in_an_early_part : (stages counting_strictly (sum_of (stages counting_strictly (put_x 1 (codes "a") ∷ [])) (put_x 2 (codes "|") ∷ [])) ≡ put_x 2 (codes "|") ∷ [])
    × (stages counting_strictly (sum_of (put_x 1 (codes "a") ∷ []) (put_x 2 (codes "|") ∷ [])) ≡ put_x 2 [] ∷ [])
unfolding stages stage sum_of sorted put above cell_cmp key_cmp column_cmp time_cmp combine_columns filter_beside leads with_joined_value joined_value put_beside same_column reduce_values join_from
an_unread_value_in_an_early_part = (refl, refl)

early_of_unread_values_is_false : ((ps qs : List Stage) (a x : List Cell) → AreAccepted (ps ++ qs) → Ascends above a → stages (ps ++ qs) (sum_of (stages ps a) x) ≡ stages (ps ++ qs) (sum_of a x)) → ⊥
early_of_unread_values_is_false law = let p = an_unread_value_in_an_early_part in differ (codes "|") [] 2 one_none (sym p.0 ∙ law counting_strictly [] (put_x 1 (codes "a") ∷ []) (put_x 2 (codes "|") ∷ []) (((λ c e h. refl), strict_lawful), (tt, tt)) (alone (put_x 1 (codes "a"))) ∙ p.1)

an_early_part_out_of_order : (stages one_version (sum_of (stages one_version oldest_first) []) ≡ put_x 1 (codes "|") ∷ [])
    × (stages one_version (sum_of oldest_first []) ≡ put_x 3 (codes "||") ∷ [])
unfolding stages stage sum_of sorted put above cell_cmp key_cmp column_cmp time_cmp filter_beside put_beside same_column versions is_recent
an_early_part_out_of_order = (refl, refl)

early_out_of_order_is_false : ((ps qs : List Stage) (a x : List Cell) → AreAccepted (ps ++ qs) → AreUnmarkedRead (ps ++ qs) a → AreUnmarkedRead (ps ++ qs) x → stages (ps ++ qs) (sum_of (stages ps a) x) ≡ stages (ps ++ qs) (sum_of a x)) → ⊥
early_out_of_order_is_false law = let p = an_early_part_out_of_order in longer (sym p.1 ∙ sym (law one_version [] oldest_first [] versions_accepted (versions_read oldest_first) tt) ∙ p.0)

-- plain columns are columns: where markers alone are plain, no times are compared
abbrev is_marker : Cell → Bool
is_marker e = e.key.deleted

markers_alone_are_plain : AreApart is_marker marker_between puts
markers_alone_are_plain = ((λ d. inl ((λ p. absurd (no_bool p)), ((λ p. absurd (no_bool p)), tt))), tt)

minor_of_no_columns_is_false : ((plain : Cell → Bool) (ps qs : List Stage) (a x : List Cell) → AreAccepted (ps ++ qs) → Ascends above a → AreUnmarkedRead (ps ++ qs) a → AreUnmarkedRead (ps ++ qs) x → HasPlainMarkers plain x → AreApart plain x a → scan (ps ++ qs) (minor_compaction ps a) x ≡ scan (ps ++ qs) a x) → ⊥
minor_of_no_columns_is_false law = let p = a_marker_in_the_middle_of_a_minor_compaction in differ (codes "||") (codes "|") 3 two_one (sym p.0 ∙ law is_marker (counting true) [] puts marker_between (accepted true) in_order (puts_read true) (marker_read true) ((λ d. refl), tt) markers_alone_are_plain ∙ p.1)

full_of_no_columns_is_false : ((plain : Cell → Bool) (ps qs : List Stage) (a x : List Cell) → AreAccepted (ps ++ qs) → Ascends above a → AreUnmarkedRead (ps ++ qs) a → AreUnmarkedRead (ps ++ qs) x → HasPlainMarkers plain a → HasPlainMarkers plain x → AreNewer plain x a → scan (ps ++ qs) (full_compaction ps a) x ≡ scan (ps ++ qs) a x) → ⊥
full_of_no_columns_is_false law = let p = an_older_entry_outside_a_full_compaction in not_empty (put_x 1 (codes "a")) (sym p.0 ∙ law is_marker [] [] marker_between (put_x 1 (codes "a") ∷ []) tt (alone (marker_x 2)) ((λ d. tt), tt) ((λ d. tt), tt) ((λ d. refl), tt) ((λ d. d), tt) ((λ d. absurd (no_bool d)), tt) ∙ p.1)

newer_of_no_columns_is_false : ((plain : Cell → Bool) (ss : List Stage) (u w v : List Cell) → AreAccepted ss → Ascends above u → Ascends above w → AreUnmarkedRead ss u → AreUnmarkedRead ss w → AreUnmarkedRead ss v → HasPlainMarkers plain u → HasPlainMarkers plain w → HasPlainMarkers plain v → AreNewer plain v u → AreNewer plain v w → stages ss (live u) ≡ stages ss (live w) → scan ss u v ≡ scan ss w v) → ⊥
newer_of_no_columns_is_false law = let p = an_older_entry_tells_equal_answers_apart in not_empty (put_x 1 (codes "a")) (sym p.3 ∙ sym (law is_marker [] marker_between [] (put_x 1 (codes "a") ∷ []) tt (alone (marker_x 2)) nothing_in_order ((λ d. tt), tt) tt ((λ d. tt), tt) ((λ d. refl), tt) tt ((λ d. d), tt) ((λ d. absurd (no_bool d)), tt) ((λ d. absurd (no_bool d)), tt) nothing_lives) ∙ p.2)
