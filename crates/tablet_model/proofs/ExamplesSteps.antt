-- The steps of a store on small stores: each step, and each refusal in its order.
use Rattle.std.proofs.Common.{◌≡◌, ℕ, Bool, true, false, Option, Some, None, List, [], ◌∷◌, replicate, refl, codes, arith}
use Rattle.tablet_model.specs.Cell.{Cell}
use Rattle.tablet_model.specs.Order.{column_cmp, time_cmp, key_cmp, cell_cmp, above, same_column}
use Rattle.tablet_model.specs.Sorted.{put, sorted}
use Rattle.tablet_model.specs.Sum.{sum_of}
use Rattle.tablet_model.specs.Kept.{filter_beside}
use Rattle.tablet_model.specs.Markers.{marker_beside, put_beside, hides, is_live, live, is_unmarked, mark}
use Rattle.tablet_model.specs.Reductions.{join_from, reduce_values}
use Rattle.tablet_model.specs.Combines.{leads, joined_value, with_joined_value, combine_columns}
use Rattle.tablet_model.specs.Stages.{combine, stage, stages}
use Rattle.tablet_model.specs.Compactions.{partial_stages}
use Rattle.tablet_model.specs.History.{Change, RowChange}
use Rattle.tablet_model.specs.Rules.{Rules, AreSound}
use Rattle.tablet_model.specs.Ingest.{duplicate, too_long, first_too_long, out_of_bounds, first_where, is_twin, first_twice, is_refused_delete, is_mistimed, is_read, is_unread, ingest}
use Rattle.tablet_model.specs.Store.{Store, File, RunningJob, empty_store, cells_of, frozen_of, parts_of, all_of, has_id, files_with, files_without, input_of}
use Rattle.tablet_model.specs.Steps.{apply, freeze, flush, compact, compact_all, finish, applied, froze, flushed, started, finished, refused, nothing_in_memory, frozen_there, nothing_frozen, too_many_files, job_exists, no_files, no_such_file, in_job, no_such_job, is_empty, find_job, holder, first_missing, first_taken, ids_of, takes_all, refuse_start, refuse, with_job, made_by, without_job, step, step_answer, answer_to_step, store_after, log_after}
use Rattle.tablet_model.proofs.ExampleCells.{put_at, marker_at, tally, tally_lawful, tally_short}

-- one combiner of all columns, in all compactions, that may have deletes
abbrev rules : Rules
rules = record {
  base = combine (λ e. true) tally true ∷ [];
  minor = combine (λ e. true) tally true ∷ [];
  major = combine (λ e. true) tally true ∷ [];
  scan_combiners = [];
  scan_rest = λ list. list;
  plain = λ e. true;
  may_delete = λ e. true;
}

-- they are sound
true_false : true ≡ false → ⊥
true_false h = grind arith

rules_are_sound : AreSound rules
rules_are_sound = record {
  accepted = (((λ c e h. refl), tally_lawful), (tt, tt));
  short = (tally_short, tt);
  apart = (tt, tt);
  minor_first = ([], refl);
  major_first = ([], refl);
  not_newest = λ h. (tt, tt);
  plain_columns = λ c e h. refl;
  delete_columns = λ c e h. refl;
  plain_deletes = λ e h. refl;
  deletable = λ e h. ((λ f. absurd (true_false f)), tt);
}

abbrev change : List ℕ → Option (List ℕ) → Change
change qualifier value = record { family = codes "n"; qualifier = qualifier; visibility = []; time = None; value = value }

abbrev put_x : RowChange
put_x = record { row = codes "r1"; changes = change (codes "x") (Some (codes "||")) ∷ [] }

abbrev put_x_twice : RowChange
put_x_twice = record { row = codes "r1"; changes = change (codes "x") (Some (codes "|")) ∷ change (codes "x") (Some (codes "|")) ∷ [] }

abbrev file : ℕ → List Cell → File
file id cells = record { id = id; cells = cells }

abbrev job : ℕ → Bool → List ℕ → RunningJob
job number full ids = record { job = number; full = full; ids = ids }

-- three mutations came in, a put to each file and the memory
abbrev busy : Store
busy = record {
  count = 3;
  files = file 1 (put_at (codes "x") 1 (codes "|") ∷ []) ∷ file 2 (marker_at (codes "x") 2 ∷ []) ∷ [];
  next = 3;
  frozen = None;
  memory = put_at (codes "x") 3 (codes "|") ∷ [];
  jobs = [];
}

abbrev with_frozen : Store
with_frozen = record busy { frozen = Some (put_at (codes "x") 3 (codes "|") ∷ []); memory = [] }

-- what the whole store has
all_parts_are_summed : all_of busy ≡ put_at (codes "x") 3 (codes "|") ∷ marker_at (codes "x") 2 ∷ put_at (codes "x") 1 (codes "|") ∷ []
unfolding all_of parts_of cells_of frozen_of sorted put above cell_cmp key_cmp column_cmp time_cmp
all_parts_are_summed = refl

a_mutation_comes_into_memory : store_after rules busy (apply put_x) ≡ record busy { count = 4; memory = put_at (codes "x") 4 (codes "||") ∷ put_at (codes "x") 3 (codes "|") ∷ [] }
unfolding store_after refuse step ingest out_of_bounds first_too_long too_long first_twice is_twin first_where is_refused_delete is_mistimed is_unread is_read sum_of sorted put above cell_cmp key_cmp column_cmp time_cmp
a_mutation_comes_into_memory = refl

it_is_answered_by_its_number : answer_to_step rules busy (apply put_x) ≡ applied 4
unfolding answer_to_step refuse step_answer ingest out_of_bounds first_too_long too_long first_twice is_twin first_where is_refused_delete is_mistimed is_unread is_read
it_is_answered_by_its_number = refl

it_stands_at_the_end_of_the_log : log_after rules busy [] (apply put_x) ≡ put_x ∷ []
unfolding log_after ingest out_of_bounds first_too_long too_long first_twice is_twin first_where is_refused_delete is_mistimed is_unread is_read
it_stands_at_the_end_of_the_log = refl

a_refused_mutation_is_told_why : answer_to_step rules busy (apply put_x_twice) ≡ refused (duplicate 2)
unfolding answer_to_step refuse ingest out_of_bounds first_too_long too_long first_twice is_twin
a_refused_mutation_is_told_why = refl

a_refused_mutation_changes_nothing : store_after rules busy (apply put_x_twice) ≡ busy
unfolding store_after refuse ingest out_of_bounds first_too_long too_long first_twice is_twin
a_refused_mutation_changes_nothing = refl

a_refused_mutation_is_not_logged : log_after rules busy [] (apply put_x_twice) ≡ []
unfolding log_after ingest out_of_bounds first_too_long too_long first_twice is_twin
a_refused_mutation_is_not_logged = refl

-- freeze
the_memory_becomes_the_frozen_part : store_after rules busy freeze ≡ with_frozen
unfolding store_after refuse step is_empty
the_memory_becomes_the_frozen_part = refl

freeze_is_answered_by_the_entries : answer_to_step rules busy freeze ≡ froze 1
unfolding answer_to_step refuse step_answer is_empty
freeze_is_answered_by_the_entries = refl

one_frozen_part_at_most : answer_to_step rules (record with_frozen { memory = [] }) freeze ≡ frozen_there
unfolding answer_to_step refuse
one_frozen_part_at_most = refl

an_empty_memory_is_not_frozen : answer_to_step rules empty_store freeze ≡ nothing_in_memory
unfolding answer_to_step refuse is_empty empty_store
an_empty_memory_is_not_frozen = refl

-- flush
the_frozen_part_becomes_a_file : store_after rules with_frozen flush ≡ record with_frozen { files = file 1 (put_at (codes "x") 1 (codes "|") ∷ []) ∷ file 2 (marker_at (codes "x") 2 ∷ []) ∷ file 3 (put_at (codes "x") 3 (codes "|") ∷ []) ∷ []; next = 4; frozen = None }
unfolding store_after refuse step frozen_of stages stage mark is_unmarked marker_beside combine_columns filter_beside leads with_joined_value joined_value put_beside same_column column_cmp reduce_values join_from
the_frozen_part_becomes_a_file = refl

flush_is_answered_by_file_and_entries : answer_to_step rules with_frozen flush ≡ flushed 3 1
unfolding answer_to_step refuse step_answer frozen_of stages stage mark is_unmarked marker_beside combine_columns filter_beside leads with_joined_value joined_value put_beside same_column column_cmp reduce_values join_from
flush_is_answered_by_file_and_entries = refl

no_flush_without_a_frozen_part : answer_to_step rules busy flush ≡ nothing_frozen
unfolding answer_to_step refuse
no_flush_without_a_frozen_part = refl

no_65th_file : answer_to_step rules (record with_frozen { files = replicate 64 (file 1 []) }) flush ≡ too_many_files
unfolding answer_to_step refuse
no_65th_file = refl

-- compact and finish
a_job_over_some_files_is_not_full : store_after rules busy (compact 7 (1 ∷ [])) ≡ record busy { jobs = job 7 false (1 ∷ []) ∷ [] }
unfolding store_after refuse refuse_start step with_job takes_all has_id ids_of first_missing first_taken holder find_job is_empty
a_job_over_some_files_is_not_full = refl

a_job_over_all_files_is_full : answer_to_step rules busy (compact 7 (1 ∷ 2 ∷ [])) ≡ started 7 true
unfolding answer_to_step refuse refuse_start step_answer takes_all has_id ids_of first_missing first_taken holder find_job is_empty
a_job_over_all_files_is_full = refl

compact_all_takes_all : store_after rules busy (compact_all 7) ≡ record busy { jobs = job 7 true (1 ∷ 2 ∷ []) ∷ [] }
unfolding store_after refuse refuse_start step with_job has_id ids_of first_missing first_taken holder find_job is_empty
compact_all_takes_all = refl

abbrev with_full_job : Store
with_full_job = record busy { jobs = job 7 true (1 ∷ 2 ∷ []) ∷ [] }

abbrev with_partial_job : Store
with_partial_job = record busy { jobs = job 7 false (2 ∷ []) ∷ [] }

a_full_job_drops_what_is_deleted : store_after rules with_full_job (finish 7) ≡ record busy { files = file 3 [] ∷ []; next = 4 }
unfolding store_after refuse step without_job made_by input_of files_with files_without cells_of has_id find_job stages stage live is_live hides marker_beside combine_columns filter_beside leads with_joined_value joined_value put_beside same_column column_cmp reduce_values join_from sorted put above cell_cmp key_cmp time_cmp
a_full_job_drops_what_is_deleted = refl

a_partial_job_keeps_markers : store_after rules with_partial_job (finish 7) ≡ record busy { files = file 1 (put_at (codes "x") 1 (codes "|") ∷ []) ∷ file 3 (marker_at (codes "x") 2 ∷ []) ∷ []; next = 4 }
unfolding store_after refuse step without_job made_by input_of files_with files_without cells_of has_id find_job stages stage partial_stages mark is_unmarked marker_beside filter_beside same_column column_cmp sorted put above cell_cmp key_cmp time_cmp
a_partial_job_keeps_markers = refl

finish_is_answered_by_job_file_and_entries : answer_to_step rules with_partial_job (finish 7) ≡ finished 7 3 1
unfolding answer_to_step refuse step_answer made_by input_of files_with cells_of has_id find_job stages stage partial_stages mark is_unmarked marker_beside filter_beside same_column column_cmp sorted put above cell_cmp key_cmp time_cmp
finish_is_answered_by_job_file_and_entries = refl

a_number_runs_once : answer_to_step rules with_partial_job (compact 7 []) ≡ job_exists 7
unfolding answer_to_step refuse refuse_start find_job
a_number_runs_once = refl

no_job_without_files : answer_to_step rules with_partial_job (compact 8 []) ≡ no_files
unfolding answer_to_step refuse refuse_start find_job is_empty
no_job_without_files = refl

compact_all_needs_a_file : answer_to_step rules empty_store (compact_all 8) ≡ no_files
unfolding answer_to_step refuse refuse_start find_job is_empty ids_of empty_store
compact_all_needs_a_file = refl

a_missing_file_is_told_before_a_taken_one : answer_to_step rules with_partial_job (compact 8 (2 ∷ 5 ∷ 6 ∷ [])) ≡ no_such_file 5
unfolding answer_to_step refuse refuse_start find_job is_empty first_missing has_id ids_of
a_missing_file_is_told_before_a_taken_one = refl

a_file_is_in_one_job : answer_to_step rules with_partial_job (compact 8 (1 ∷ 2 ∷ [])) ≡ in_job 2 7
unfolding answer_to_step refuse refuse_start find_job is_empty first_missing first_taken holder has_id ids_of
a_file_is_in_one_job = refl

a_job_that_does_not_run_does_not_finish : answer_to_step rules with_partial_job (finish 9) ≡ no_such_job 9
unfolding answer_to_step refuse find_job
a_job_that_does_not_run_does_not_finish = refl

a_refused_step_changes_nothing : store_after rules with_partial_job (compact 8 (2 ∷ [])) ≡ with_partial_job
unfolding store_after refuse refuse_start find_job is_empty first_missing first_taken holder has_id ids_of
a_refused_step_changes_nothing = refl
