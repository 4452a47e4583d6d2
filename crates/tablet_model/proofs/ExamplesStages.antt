-- Combiners, lists of stages and compactions on small lists.
use Rattle.std.proofs.Common.{◌≡◌, Bool, true, false, List, [], ◌∷◌, refl, codes, bytes_eq}
use Rattle.tablet_model.specs.Cell.{Cell}
use Rattle.tablet_model.specs.Order.{column_cmp, same_column}
use Rattle.tablet_model.specs.Kept.{filter_beside}
use Rattle.tablet_model.specs.Markers.{marker_beside, put_beside, hides, is_live, live, is_unmarked, mark}
use Rattle.tablet_model.specs.Versions.{is_recent, versions}
use Rattle.tablet_model.specs.Filters.{filter_puts}
use Rattle.tablet_model.specs.Reductions.{join_from, reduce_values}
use Rattle.tablet_model.specs.Combines.{leads, joined_value, with_joined_value, combine_columns}
use Rattle.tablet_model.specs.Stages.{by_column, by_cell, newest, combine, stage, stages}
use Rattle.tablet_model.specs.Compactions.{partial_stages, minor_compaction, partial_compaction, full_compaction}
use Rattle.tablet_model.proofs.ExampleCells.{put_at, marker_at, tally}

abbrev is_x : Cell → Bool
is_x e = bytes_eq e.key.qualifier (codes "x")

-- the newest key and the joined value; a single value is rewritten too; other columns and markers stay
a_combiner_joins_a_column : combine_columns is_x tally (put_at (codes "x") 3 (codes "||") ∷ put_at (codes "x") 2 (codes "|") ∷ marker_at (codes "x") 1 ∷ put_at (codes "y") 2 (codes "b") ∷ put_at (codes "y") 1 (codes "a") ∷ []) ≡ put_at (codes "x") 3 (codes "|||") ∷ marker_at (codes "x") 1 ∷ put_at (codes "y") 2 (codes "b") ∷ put_at (codes "y") 1 (codes "a") ∷ []
unfolding combine_columns filter_beside leads with_joined_value joined_value put_beside same_column column_cmp reduce_values join_from
a_combiner_joins_a_column = refl

one_value_is_rewritten : combine_columns is_x tally (put_at (codes "x") 3 (codes "7") ∷ []) ≡ put_at (codes "x") 3 (codes "|") ∷ []
unfolding combine_columns filter_beside leads with_joined_value joined_value put_beside same_column column_cmp reduce_values join_from
one_value_is_rewritten = refl

abbrev two_columns : List Cell
two_columns = put_at (codes "x") 3 (codes "||") ∷ put_at (codes "x") 2 (codes "|") ∷ put_at (codes "y") 2 (codes "b") ∷ put_at (codes "y") 1 (codes "a") ∷ []

-- the first stage stands nearest the data
stages_run_in_order : stages (combine is_x tally true ∷ newest 1 ∷ []) two_columns ≡ put_at (codes "x") 3 (codes "|||") ∷ put_at (codes "y") 2 (codes "b") ∷ []
unfolding stages stage combine_columns versions filter_beside leads is_recent with_joined_value joined_value put_beside same_column column_cmp reduce_values join_from
stages_run_in_order = refl

their_order_matters : stages (newest 1 ∷ combine is_x tally true ∷ []) two_columns ≡ put_at (codes "x") 3 (codes "||") ∷ put_at (codes "y") 2 (codes "b") ∷ []
unfolding stages stage combine_columns versions filter_beside leads is_recent with_joined_value joined_value put_beside same_column column_cmp reduce_values join_from
their_order_matters = refl

filters_are_stages : stages (by_column is_x ∷ by_cell (λ e. bytes_eq e.value (codes "|")) ∷ []) two_columns ≡ put_at (codes "x") 2 (codes "|") ∷ []
unfolding stages stage filter_puts
filters_are_stages = refl

no_stages_change_nothing : stages [] two_columns ≡ two_columns
unfolding stages
no_stages_change_nothing = refl

-- the three compactions of one list
abbrev deleted_twice : List Cell
deleted_twice = put_at (codes "x") 5 (codes "|") ∷ put_at (codes "x") 4 (codes "||") ∷ marker_at (codes "x") 3 ∷ put_at (codes "x") 2 (codes "|") ∷ marker_at (codes "x") 1 ∷ []

a_minor_compaction_keeps_the_newest_marker : minor_compaction (combine is_x tally true ∷ []) deleted_twice ≡ put_at (codes "x") 5 (codes "|||") ∷ marker_at (codes "x") 3 ∷ []
unfolding stages stage mark is_unmarked marker_beside combine_columns filter_beside leads with_joined_value joined_value put_beside same_column column_cmp reduce_values join_from
a_minor_compaction_keeps_the_newest_marker = refl

a_partial_compaction_leaves_combiners_of_columns_with_markers : partial_compaction (combine is_x tally true ∷ []) deleted_twice ≡ put_at (codes "x") 5 (codes "|") ∷ put_at (codes "x") 4 (codes "||") ∷ marker_at (codes "x") 3 ∷ []
unfolding stages stage partial_stages mark is_unmarked marker_beside filter_beside same_column column_cmp
a_partial_compaction_leaves_combiners_of_columns_with_markers = refl

a_partial_compaction_runs_the_other_stages : partial_compaction (combine is_x tally false ∷ newest 1 ∷ []) two_columns ≡ put_at (codes "x") 3 (codes "|||") ∷ put_at (codes "y") 2 (codes "b") ∷ []
unfolding stages stage partial_stages mark is_unmarked marker_beside combine_columns versions filter_beside leads is_recent with_joined_value joined_value put_beside same_column column_cmp reduce_values join_from
a_partial_compaction_runs_the_other_stages = refl

a_full_compaction_drops_markers : full_compaction (combine is_x tally true ∷ []) deleted_twice ≡ put_at (codes "x") 5 (codes "|||") ∷ []
unfolding stages stage live is_live hides marker_beside combine_columns filter_beside leads with_joined_value joined_value put_beside same_column column_cmp reduce_values join_from
a_full_compaction_drops_markers = refl
