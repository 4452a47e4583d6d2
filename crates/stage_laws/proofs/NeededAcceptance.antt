-- Why stages may run early only in an accepted list: for each rule a list of stages that breaks it alone, a few entries for which the law's
-- two sides differ, and so that the law is false for it. `early` is what stages make where a part went through them before, `late`
-- where it did not.
use Rattle.std.specs.List.{AllByRecursion}
use Rattle.std.proofs.Common.{◌≡◌, ◌<◌, ◌+◌, sym, ℕ, ℤ, pos, negsuc, Bool, true, false, ◌&&◌, cond, nat_lt, List, [], ◌∷◌, ◌++◌, length, map, refl, ap, ◌∙◌, codes, bytes_eq, arith}
use Rattle.tablet_model.specs.Cell.{Cell}
use Rattle.tablet_model.specs.Order.{column_cmp, time_cmp, key_cmp, cell_cmp, above, same_column}
use Rattle.tablet_model.specs.Sorted.{put, sorted, Ascends}
use Rattle.tablet_model.specs.Sum.{sum_of}
use Rattle.tablet_model.specs.Kept.{filter_beside}
use Rattle.tablet_model.specs.Markers.{put_beside}
use Rattle.tablet_model.specs.Versions.{is_recent, versions}
use Rattle.tablet_model.specs.Filters.{filter_puts}
use Rattle.tablet_model.specs.Reductions.{Reduction, IsLawful, join_from, reduce_values}
use Rattle.tablet_model.specs.Combines.{leads, joined_value, with_joined_value, combine_columns}
use Rattle.tablet_model.specs.Stages.{Stage, by_cell, newest, combine, stage, stages}
use Rattle.tablet_model.specs.Accepted.{IsWellMade}
use Rattle.tablet_model.specs.Reading.{AreUnmarkedRead}
use Rattle.tablet_model.proofs.ExampleCells.{put_x, differ, not_empty, tally, tally_lawful, marks, few, length_marks}

abbrev always : Cell → Bool
always e = true

abbrev has_value : List ℕ → Cell → Bool
has_value value e = bytes_eq e.value value

-- a part has been through stages before
abbrev early : List Stage → List Cell → List Cell → List Cell
early ss a x = stages ss (sum_of (stages ss a) x)

abbrev late : List Stage → List Cell → List Cell → List Cell
late ss a x = stages ss (sum_of a x)

-- what the law says of a list that is accepted
abbrev MayRunEarly : List Stage → Type 0
MayRunEarly ss = (a x : List Cell) → AreUnmarkedRead ss a → AreUnmarkedRead ss x → Ascends above a → early ss a x ≡ late ss a x

some : (n : ℕ) → 0 < n + 1
some n = omega arith

three_two : length (codes "|||") ≡ length (codes "||") → ⊥
three_two h = omega arith

two_in_order : (v w : List ℕ) → Ascends above (put_x 2 v ∷ put_x 1 w ∷ [])
unfolding Ascends above cell_cmp key_cmp column_cmp time_cmp
two_in_order v w = ((refl, tt), (tt, tt))

one_in_order : (e : Cell) → Ascends above (e ∷ [])
unfolding Ascends
one_in_order e = (tt, tt)

-- no cell filter behind a combiner: the joined value of a part alone may fail where that of all passes
abbrev count_then_filter : List Stage
count_then_filter = combine always tally true ∷ by_cell (has_value (codes "||")) ∷ []

no_cell_filter_behind_a_combiner : (early count_then_filter (put_x 1 (codes "|") ∷ []) (put_x 2 (codes "|") ∷ []) ≡ [])
    × (late count_then_filter (put_x 1 (codes "|") ∷ []) (put_x 2 (codes "|") ∷ []) ≡ put_x 2 (codes "||") ∷ [])
unfolding stages stage sum_of sorted put above cell_cmp key_cmp column_cmp time_cmp combine_columns filter_beside leads with_joined_value joined_value put_beside same_column reduce_values join_from filter_puts
no_cell_filter_behind_a_combiner = (refl, refl)

count_then_filter_is_well_made : AllByRecursion IsWellMade count_then_filter
count_then_filter_is_well_made = (((λ c e h. refl), tally_lawful), (tt, tt))

count_then_filter_may_not : MayRunEarly count_then_filter → ⊥
count_then_filter_may_not law = let p = no_cell_filter_behind_a_combiner in not_empty (put_x 2 (codes "||")) (sym p.1 ∙ sym (law (put_x 1 (codes "|") ∷ []) (put_x 2 (codes "|") ∷ []) ((λ d. ((λ l. refl), (tt, tt))), tt) ((λ d. ((λ l. refl), (tt, tt))), tt) (one_in_order (put_x 1 (codes "|")))) ∙ p.0)

-- nor before it: the joined value would go through the filter again
abbrev filter_then_count : List Stage
filter_then_count = by_cell (has_value (codes "|")) ∷ combine always tally true ∷ []

no_cell_filter_before_a_combiner : (early filter_then_count (put_x 2 (codes "|") ∷ put_x 1 (codes "|") ∷ []) [] ≡ [])
    × (late filter_then_count (put_x 2 (codes "|") ∷ put_x 1 (codes "|") ∷ []) [] ≡ put_x 2 (codes "||") ∷ [])
unfolding stages stage sum_of sorted put above cell_cmp key_cmp column_cmp time_cmp combine_columns filter_beside leads with_joined_value joined_value put_beside same_column reduce_values join_from filter_puts
no_cell_filter_before_a_combiner = (refl, refl)

filter_then_count_is_well_made : AllByRecursion IsWellMade filter_then_count
filter_then_count_is_well_made = (tt, (((λ c e h. refl), tally_lawful), tt))

filter_then_count_may_not : MayRunEarly filter_then_count → ⊥
filter_then_count_may_not law = let p = no_cell_filter_before_a_combiner in not_empty (put_x 2 (codes "||")) (sym p.1 ∙ sym (law (put_x 2 (codes "|") ∷ put_x 1 (codes "|") ∷ []) [] ((λ d. (tt, ((λ l. refl), tt))), ((λ d. (tt, ((λ l. refl), tt))), tt)) tt (two_in_order (codes "|") (codes "|"))) ∙ p.0)

-- no combiner behind versions: a joined value counts as one version
abbrev two_versions_then_count : List Stage
two_versions_then_count = newest 2 ∷ combine always tally true ∷ []

no_combiner_behind_versions : (early two_versions_then_count (put_x 2 (codes "|") ∷ put_x 1 (codes "|") ∷ []) (put_x 3 (codes "|") ∷ []) ≡ put_x 3 (codes "|||") ∷ [])
    × (late two_versions_then_count (put_x 2 (codes "|") ∷ put_x 1 (codes "|") ∷ []) (put_x 3 (codes "|") ∷ []) ≡ put_x 3 (codes "||") ∷ [])
unfolding stages stage sum_of sorted put above cell_cmp key_cmp column_cmp time_cmp combine_columns filter_beside leads with_joined_value joined_value put_beside same_column reduce_values join_from versions is_recent
no_combiner_behind_versions = (refl, refl)

two_versions_then_count_is_well_made : AllByRecursion IsWellMade two_versions_then_count
two_versions_then_count_is_well_made = (some 1, (((λ c e h. refl), tally_lawful), tt))

two_versions_then_count_may_not : MayRunEarly two_versions_then_count → ⊥
two_versions_then_count_may_not law = let p = no_combiner_behind_versions in differ (codes "|||") (codes "||") 3 three_two (sym p.0 ∙ law (put_x 2 (codes "|") ∷ put_x 1 (codes "|") ∷ []) (put_x 3 (codes "|") ∷ []) ((λ d. (tt, ((λ l. refl), tt))), ((λ d. (tt, ((λ l. refl), tt))), tt)) ((λ d. (tt, ((λ l. refl), tt))), tt) (two_in_order (codes "|") (codes "|")) ∙ p.1)

-- no cell filter behind versions: an older version would take the place of one that was dropped
abbrev one_version_then_filter : List Stage
one_version_then_filter = newest 1 ∷ by_cell (has_value (codes "a")) ∷ []

no_cell_filter_behind_versions : (early one_version_then_filter (put_x 2 (codes "b") ∷ []) (put_x 1 (codes "a") ∷ []) ≡ put_x 1 (codes "a") ∷ [])
    × (late one_version_then_filter (put_x 2 (codes "b") ∷ []) (put_x 1 (codes "a") ∷ []) ≡ [])
unfolding stages stage sum_of sorted put above cell_cmp key_cmp column_cmp time_cmp combine_columns filter_beside leads with_joined_value joined_value put_beside same_column reduce_values join_from filter_puts versions is_recent
no_cell_filter_behind_versions = (refl, refl)

one_version_then_filter_is_well_made : AllByRecursion IsWellMade one_version_then_filter
one_version_then_filter_is_well_made = (some 0, (tt, tt))

one_version_then_filter_may_not : MayRunEarly one_version_then_filter → ⊥
one_version_then_filter_may_not law = let p = no_cell_filter_behind_versions in not_empty (put_x 1 (codes "a")) (sym p.0 ∙ law (put_x 2 (codes "b") ∷ []) (put_x 1 (codes "a") ∷ []) ((λ d. (tt, (tt, tt))), tt) ((λ d. (tt, (tt, tt))), tt) (one_in_order (put_x 2 (codes "b"))) ∙ p.1)

-- a reduction that gives the larger of two counts, and two at least
abbrev at_least_two : ℕ → ℕ
at_least_two n = cond (nat_lt n 2) 2 n

abbrev larger : List ℤ → List ℤ → List ℤ
larger (pos m ∷ []) (pos n ∷ []) = pos (cond (nat_lt m n) n m) ∷ []
larger v w = []

abbrev is_two_or_more : List ℤ → Bool
is_two_or_more (pos n ∷ []) = nat_lt 1 n && nat_lt n 10
is_two_or_more v = false

abbrev largest : Reduction
largest = record { reads = λ b. true; is_value = is_two_or_more; value = λ b. pos (at_least_two (few (length b))) ∷ []; join = larger; text = marks }

of_two_or_more : (P : List ℤ → Type 0) → ((n : ℕ) → (nat_lt 1 n && nat_lt n 10) ≡ true → P (pos n ∷ [])) → (v : List ℤ) → is_two_or_more v ≡ true → P v
of_two_or_more P f [] h = absurd (grind arith)
of_two_or_more P f (pos n ∷ []) h = f n h
of_two_or_more P f (pos n ∷ x ∷ xs) h = absurd (grind arith)
of_two_or_more P f (negsuc n ∷ xs) h = absurd (grind arith)

read_in : (n : ℕ) → (nat_lt 1 (at_least_two (few n)) && nat_lt (at_least_two (few n)) 10) ≡ true
read_in n = grind arith

read_same : (n : ℕ) → (nat_lt 1 n && nat_lt n 10) ≡ true → at_least_two (few n) ≡ n
read_same n h = grind arith

larger_in : (m n : ℕ) → (nat_lt 1 m && nat_lt m 10) ≡ true → (nat_lt 1 n && nat_lt n 10) ≡ true → (nat_lt 1 (cond (nat_lt m n) n m) && nat_lt (cond (nat_lt m n) n m) 10) ≡ true
larger_in m n h k = grind arith

larger_assoc : (a b c : ℕ) → cond (nat_lt (cond (nat_lt a b) b a) c) c (cond (nat_lt a b) b a) ≡ cond (nat_lt a (cond (nat_lt b c) c b)) (cond (nat_lt b c) c b) a
larger_assoc a b c = grind arith

larger_comm : (a b : ℕ) → cond (nat_lt a b) b a ≡ cond (nat_lt b a) a b
larger_comm a b = grind arith

largest_lawful : IsLawful largest
largest_lawful = record {
  value_of = λ b h. read_in (length b);
  joined = λ v w hv hw. of_two_or_more (λ v. is_two_or_more (larger v w) ≡ true) (λ m h. of_two_or_more (λ w. is_two_or_more (larger (pos m ∷ []) w) ≡ true) (λ n k. larger_in m n h k) w hw) v hv;
  assoc = λ u v w hu hv hw. of_two_or_more (λ u. larger (larger u v) w ≡ larger u (larger v w))
      (λ a ha. of_two_or_more (λ v. larger (larger (pos a ∷ []) v) w ≡ larger (pos a ∷ []) (larger v w))
      (λ b hb. of_two_or_more (λ w. larger (larger (pos a ∷ []) (pos b ∷ [])) w ≡ larger (pos a ∷ []) (larger (pos b ∷ []) w)) (λ c hc. ap (λ n. pos n ∷ []) (larger_assoc a b c)) w hw) v hv) u hu;
  comm = λ v w hv hw. of_two_or_more (λ v. larger v w ≡ larger w v) (λ a ha. of_two_or_more (λ w. larger (pos a ∷ []) w ≡ larger w (pos a ∷ [])) (λ b hb. ap (λ n. pos n ∷ []) (larger_comm a b)) w hw) v hv;
  text_read = λ v h. refl;
  text_value = λ v h. of_two_or_more (λ v. pos (at_least_two (few (length (marks v)))) ∷ [] ≡ v) (λ n k. ap (λ n. pos n ∷ []) (ap (λ m. at_least_two (few m)) (length_marks n) ∙ read_same n k)) v h;
}

-- no two combiners of one column: the second rewrites what the first has yet to join
abbrev count_then_largest : List Stage
count_then_largest = combine always tally true ∷ combine always largest true ∷ []

no_two_combiners_of_one_column : (early count_then_largest (put_x 1 (codes "|") ∷ []) (put_x 2 (codes "|") ∷ []) ≡ put_x 2 (codes "|||") ∷ [])
    × (late count_then_largest (put_x 1 (codes "|") ∷ []) (put_x 2 (codes "|") ∷ []) ≡ put_x 2 (codes "||") ∷ [])
unfolding stages stage sum_of sorted put above cell_cmp key_cmp column_cmp time_cmp combine_columns filter_beside leads with_joined_value joined_value put_beside same_column reduce_values join_from
no_two_combiners_of_one_column = (refl, refl)

count_then_largest_is_well_made : AllByRecursion IsWellMade count_then_largest
count_then_largest_is_well_made = (((λ c e h. refl), tally_lawful), (((λ c e h. refl), largest_lawful), tt))

count_then_largest_may_not : MayRunEarly count_then_largest → ⊥
count_then_largest_may_not law = let p = no_two_combiners_of_one_column in differ (codes "|||") (codes "||") 2 three_two (sym p.0 ∙ law (put_x 1 (codes "|") ∷ []) (put_x 2 (codes "|") ∷ []) ((λ d. ((λ l. refl), ((λ l. refl), tt))), tt) ((λ d. ((λ l. refl), ((λ l. refl), tt))), tt) (one_in_order (put_x 1 (codes "|"))) ∙ p.1)

-- no combiner whose join depends on the order: a part joins its own values before those of another that stand between them
abbrev appending : Reduction
appending = record { reads = λ b. true; is_value = λ v. true; value = λ b. map pos b; join = λ v w. v ++ w; text = λ v. map bytes v }
  where
    bytes : ℤ → ℕ
    bytes (pos n) = n
    bytes (negsuc n) = 0

abbrev append_in_order : List Stage
append_in_order = combine always appending true ∷ []

no_join_that_depends_on_order : (early (append_in_order) (put_x 3 (codes "c") ∷ put_x 1 (codes "a") ∷ []) (put_x 2 (codes "b") ∷ []) ≡ put_x 3 (codes "cab") ∷ [])
    × (late (append_in_order) (put_x 3 (codes "c") ∷ put_x 1 (codes "a") ∷ []) (put_x 2 (codes "b") ∷ []) ≡ put_x 3 (codes "cba") ∷ [])
unfolding stages stage sum_of sorted put above cell_cmp key_cmp column_cmp time_cmp combine_columns filter_beside leads with_joined_value joined_value put_beside same_column reduce_values join_from
no_join_that_depends_on_order = (refl, refl)
