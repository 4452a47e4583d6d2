-- Live and marked entries, versions and filters on small lists.
use Rattle.std.proofs.Common.{◌≡◌, [], ◌∷◌, refl, codes, bytes_eq}
use Rattle.tablet_model.specs.Order.{column_cmp, same_column}
use Rattle.tablet_model.specs.Kept.{filter_beside}
use Rattle.tablet_model.specs.Markers.{marker_beside, put_beside, hides, is_live, live, is_unmarked, mark, clear_of}
use Rattle.tablet_model.specs.Versions.{is_recent, versions}
use Rattle.tablet_model.specs.Filters.{filter_puts}
use Rattle.tablet_model.proofs.ExampleCells.{put_at, marker_at}

-- a marker hides what is not newer, in its own column
a_marker_hides_its_time_and_older : live (put_at (codes "x") 4 (codes "d") ∷ marker_at (codes "x") 3 ∷ put_at (codes "x") 3 (codes "c") ∷ put_at (codes "x") 1 (codes "a") ∷ put_at (codes "y") 1 (codes "e") ∷ []) ≡ put_at (codes "x") 4 (codes "d") ∷ put_at (codes "y") 1 (codes "e") ∷ []
unfolding live is_live hides marker_beside same_column column_cmp
a_marker_hides_its_time_and_older = refl

-- also where it stands behind, with an equal time in another list
markers_of_another_list_hide : clear_of (marker_at (codes "x") 3 ∷ []) (put_at (codes "x") 4 (codes "d") ∷ put_at (codes "x") 3 (codes "c") ∷ put_at (codes "y") 3 (codes "e") ∷ []) ≡ put_at (codes "x") 4 (codes "d") ∷ put_at (codes "y") 3 (codes "e") ∷ []
unfolding clear_of hides marker_beside same_column column_cmp
markers_of_another_list_hide = refl

-- a column keeps its newest marker and what stands before it
marked_keeps_the_newest_marker : mark (put_at (codes "x") 4 (codes "d") ∷ marker_at (codes "x") 3 ∷ put_at (codes "x") 3 (codes "c") ∷ marker_at (codes "x") 1 ∷ put_at (codes "y") 1 (codes "e") ∷ []) ≡ put_at (codes "x") 4 (codes "d") ∷ marker_at (codes "x") 3 ∷ put_at (codes "y") 1 (codes "e") ∷ []
unfolding mark filter_beside is_unmarked marker_beside same_column column_cmp
marked_keeps_the_newest_marker = refl

-- of equal entries one is first, and markers are not counted
versions_count_no_markers : versions 1 (marker_at (codes "x") 4 ∷ put_at (codes "x") 3 (codes "c") ∷ put_at (codes "x") 3 (codes "c") ∷ marker_at (codes "x") 1 ∷ put_at (codes "y") 1 (codes "e") ∷ []) ≡ marker_at (codes "x") 4 ∷ put_at (codes "x") 3 (codes "c") ∷ marker_at (codes "x") 1 ∷ put_at (codes "y") 1 (codes "e") ∷ []
unfolding versions filter_beside is_recent put_beside same_column column_cmp
versions_count_no_markers = refl

two_versions_are_the_newest_two : versions 2 (put_at (codes "x") 3 (codes "c") ∷ put_at (codes "x") 2 (codes "b") ∷ put_at (codes "x") 1 (codes "a") ∷ []) ≡ put_at (codes "x") 3 (codes "c") ∷ put_at (codes "x") 2 (codes "b") ∷ []
unfolding versions filter_beside is_recent put_beside same_column column_cmp
two_versions_are_the_newest_two = refl

-- markers pass every filter
a_filter_keeps_markers : filter_puts (λ e. bytes_eq e.value (codes "a")) (marker_at (codes "x") 4 ∷ put_at (codes "x") 3 (codes "c") ∷ put_at (codes "x") 1 (codes "a") ∷ []) ≡ marker_at (codes "x") 4 ∷ put_at (codes "x") 1 (codes "a") ∷ []
unfolding filter_puts
a_filter_keeps_markers = refl
