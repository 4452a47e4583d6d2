-- The entries of histories, families and answers on small histories.
use Rattle.std.proofs.Common.{◌≡◌, ℕ, pos, Some, None, List, [], ◌∷◌, refl, codes}
use Rattle.tablet_model.specs.Order.{column_cmp, time_cmp, key_cmp, cell_cmp, above, same_column}
use Rattle.tablet_model.specs.Sorted.{put, sorted}
use Rattle.tablet_model.specs.Cuts.{Everything, BeforeRow, BehindRow}
use Rattle.tablet_model.specs.Kept.{filter_beside}
use Rattle.tablet_model.specs.Markers.{marker_beside, put_beside, hides, is_live, live}
use Rattle.tablet_model.specs.Versions.{is_recent, versions}
use Rattle.tablet_model.specs.Stages.{newest, stage, stages}
use Rattle.tablet_model.specs.Families.{in_families}
use Rattle.tablet_model.specs.History.{Change, RowChange, history_entries}
use Rattle.tablet_model.specs.Answers.{scan_of, answer}
use Rattle.tablet_model.proofs.ExampleCells.{entry, put_at, marker_at}

abbrev put_of : List ℕ → List ℕ → List ℕ → Change
put_of family qualifier value = record { family = family; qualifier = qualifier; visibility = []; time = None; value = Some value }

abbrev delete_of : List ℕ → List ℕ → Change
delete_of family qualifier = record { family = family; qualifier = qualifier; visibility = []; time = None; value = None }

abbrev one : RowChange
one = record { row = codes "r1"; changes = put_of (codes "n") (codes "x") (codes "a") ∷ put_of (codes "n") (codes "y") (codes "b") ∷ [] }

abbrev two : RowChange
two = record { row = codes "r1"; changes = put_of (codes "n") (codes "x") (codes "c") ∷ delete_of (codes "n") (codes "y") ∷ [] }

abbrev three : RowChange
three = record { row = codes "r2"; changes = put_of (codes "m") (codes "z") (codes "d") ∷ [] }

-- the k-th mutation's entries have time k, and a delete is a marker without a value
mutations_are_numbered : history_entries (one ∷ two ∷ []) ≡ put_at (codes "x") 2 (codes "c") ∷ put_at (codes "x") 1 (codes "a") ∷ marker_at (codes "y") 2 ∷ put_at (codes "y") 1 (codes "b") ∷ []
unfolding history_entries sorted put above cell_cmp key_cmp column_cmp time_cmp
mutations_are_numbered = refl

-- a put of a column that its own mutation deletes is hidden at once
a_delete_hides_a_put_of_its_mutation : live (history_entries (record { row = codes "r1"; changes = put_of (codes "n") (codes "x") (codes "a") ∷ delete_of (codes "n") (codes "x") ∷ [] } ∷ [])) ≡ []
unfolding history_entries sorted put above cell_cmp key_cmp column_cmp time_cmp live is_live hides marker_beside same_column
a_delete_hides_a_put_of_its_mutation = refl

a_change_may_have_a_time_of_its_own : history_entries (record { row = codes "r1"; changes = record { family = codes "n"; qualifier = codes "x"; visibility = []; time = Some (pos 9); value = Some (codes "a") } ∷ [] } ∷ []) ≡ put_at (codes "x") 9 (codes "a") ∷ []
unfolding history_entries sorted put
a_change_may_have_a_time_of_its_own = refl

families_are_chosen : in_families (Some (codes "m" ∷ [])) (put_at (codes "x") 2 [] ∷ entry (codes "r2") (codes "m") (codes "z") 3 [] ∷ []) ≡ entry (codes "r2") (codes "m") (codes "z") 3 [] ∷ []
families_are_chosen = refl

no_names_are_all_families : in_families None (put_at (codes "x") 2 [] ∷ []) ≡ put_at (codes "x") 2 [] ∷ []
no_names_are_all_families = refl

an_empty_list_is_no_family : in_families (Some []) (put_at (codes "x") 2 [] ∷ []) ≡ []
an_empty_list_is_no_family = refl

a_scan_answers_what_lives : answer (stages []) (record { start = Everything; end = Everything }) None (one ∷ two ∷ three ∷ []) ≡ put_at (codes "x") 2 (codes "c") ∷ put_at (codes "x") 1 (codes "a") ∷ entry (codes "r2") (codes "m") (codes "z") 3 (codes "d") ∷ []
unfolding answer scan_of stages history_entries sorted put above cell_cmp key_cmp column_cmp time_cmp live is_live hides marker_beside same_column
a_scan_answers_what_lives = refl

a_scan_keeps_to_its_range_and_families : answer (stages (newest 1 ∷ [])) (record { start = BeforeRow (codes "r1"); end = BehindRow (codes "r1") }) (Some (codes "n" ∷ [])) (one ∷ two ∷ three ∷ []) ≡ put_at (codes "x") 2 (codes "c") ∷ []
unfolding answer scan_of stages stage versions filter_beside is_recent put_beside history_entries sorted put above cell_cmp key_cmp column_cmp time_cmp live is_live hides marker_beside same_column
a_scan_keeps_to_its_range_and_families = refl
