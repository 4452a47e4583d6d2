-- The order of entries and their sums on small lists.
use Rattle.std.proofs.Common.{◌≡◌, true, false, [], ◌∷◌, refl, codes}
use Rattle.tablet_model.specs.Order.{column_cmp, time_cmp, key_cmp, cell_cmp, above, same_column}
use Rattle.tablet_model.specs.Sorted.{put, sorted}
use Rattle.tablet_model.specs.Sum.{sum_of, sum_all}
use Rattle.tablet_model.proofs.ExampleCells.{entry, put_at, marker_at}

-- rows before families before qualifiers, a text before its longer ones
rows_come_first : above (entry (codes "r2") (codes "a") [] 1 []) (entry (codes "r1") (codes "b") [] 1 []) ≡ true
unfolding above cell_cmp key_cmp column_cmp time_cmp
rows_come_first = refl

a_prefix_comes_first : above (put_at (codes "x") 9 []) (put_at (codes "xa") 1 []) ≡ false
unfolding above cell_cmp key_cmp column_cmp time_cmp
a_prefix_comes_first = refl

-- bytes count from 0 to 255
bytes_are_unsigned : above (put_at (200 ∷ []) 1 []) (put_at (100 ∷ []) 1 []) ≡ true
unfolding above cell_cmp key_cmp column_cmp time_cmp
bytes_are_unsigned = refl

newer_comes_first : above (put_at (codes "x") 1 []) (put_at (codes "x") 2 []) ≡ true
unfolding above cell_cmp key_cmp column_cmp time_cmp
newer_comes_first = refl

a_marker_comes_before_a_put_of_its_time : above (put_at (codes "x") 3 []) (marker_at (codes "x") 3) ≡ true
unfolding above cell_cmp key_cmp column_cmp time_cmp
a_marker_comes_before_a_put_of_its_time = refl

values_break_ties : above (put_at (codes "x") 3 (codes "b")) (put_at (codes "x") 3 (codes "a")) ≡ true
unfolding above cell_cmp key_cmp column_cmp time_cmp
values_break_ties = refl

an_entry_is_not_above_itself : above (put_at (codes "x") 3 (codes "b")) (put_at (codes "x") 3 (codes "b")) ≡ false
unfolding above cell_cmp key_cmp column_cmp time_cmp
an_entry_is_not_above_itself = refl

times_are_no_part_of_a_column : same_column (put_at (codes "x") 3 (codes "b")) (marker_at (codes "x") 1) ≡ true
unfolding same_column column_cmp
times_are_no_part_of_a_column = refl

a_sum_is_in_order : sum_of (put_at (codes "x") 1 (codes "a") ∷ put_at (codes "y") 9 [] ∷ []) (put_at (codes "x") 3 (codes "b") ∷ marker_at (codes "x") 3 ∷ []) ≡ marker_at (codes "x") 3 ∷ put_at (codes "x") 3 (codes "b") ∷ put_at (codes "x") 1 (codes "a") ∷ put_at (codes "y") 9 [] ∷ []
unfolding sum_of sorted put above cell_cmp key_cmp column_cmp time_cmp
a_sum_is_in_order = refl

equal_entries_all_stay : sum_all ((put_at (codes "x") 1 (codes "a") ∷ []) ∷ [] ∷ (put_at (codes "x") 1 (codes "a") ∷ []) ∷ []) ≡ put_at (codes "x") 1 (codes "a") ∷ put_at (codes "x") 1 (codes "a") ∷ []
unfolding sum_all sorted put above cell_cmp key_cmp column_cmp time_cmp
equal_entries_all_stay = refl
