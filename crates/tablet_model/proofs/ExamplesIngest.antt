-- Which mutations come in: each check, and that an earlier check is told before a later one.
use Rattle.std.proofs.Common.{◌≡◌, ◌&&◌, ℕ, pos, Bool, false, not, Option, Some, None, List, [], ◌∷◌, replicate, refl, codes, bytes_eq, nat_eq, length}
use Rattle.tablet_model.specs.Cell.{Cell}
use Rattle.tablet_model.specs.Reductions.{Reduction}
use Rattle.tablet_model.specs.Stages.{combine}
use Rattle.tablet_model.specs.History.{Change, RowChange}
use Rattle.tablet_model.specs.Rules.{Rules}
use Rattle.tablet_model.specs.Ingest.{bound, row_part, updates_part, family_part, qualifier_part, visibility_part, duplicate, delete_here, time_here, bad_value, full_log, too_long, first_too_long, out_of_bounds, first_where, is_twin, first_twice, is_refused_delete, is_mistimed, is_read, is_unread, ingest}
use Rattle.tablet_model.proofs.ExampleCells.{tally}

-- so many bytes
abbrev bytes : ℕ → List ℕ
bytes n = replicate n 97

abbrev put_of : List ℕ → List ℕ → Change
put_of qualifier value = record { family = codes "n"; qualifier = qualifier; visibility = []; time = None; value = Some value }

abbrev delete_of : List ℕ → Change
delete_of qualifier = record { family = codes "n"; qualifier = qualifier; visibility = []; time = None; value = None }

abbrev mutation : List Change → RowChange
mutation changes = record { row = codes "r1"; changes = changes }

-- bounds
a_row_may_have_1024_bytes : out_of_bounds (record { row = bytes 1024; changes = put_of [] [] ∷ [] }) ≡ None
unfolding out_of_bounds first_too_long too_long
a_row_may_have_1024_bytes = refl

no_longer_row : out_of_bounds (record { row = bytes 1025; changes = [] }) ≡ Some (bound 0 row_part)
unfolding out_of_bounds
no_longer_row = refl

no_empty_row : out_of_bounds (record { row = []; changes = put_of [] [] ∷ [] }) ≡ Some (bound 0 row_part)
unfolding out_of_bounds
no_empty_row = refl

no_mutation_without_changes : out_of_bounds (mutation []) ≡ Some (bound 0 updates_part)
unfolding out_of_bounds
no_mutation_without_changes = refl

a_mutation_may_have_100_changes : out_of_bounds (mutation (replicate 100 (put_of [] []))) ≡ None
unfolding out_of_bounds first_too_long too_long
a_mutation_may_have_100_changes = refl

no_101_changes : out_of_bounds (mutation (replicate 101 (put_of [] []))) ≡ Some (bound 0 updates_part)
unfolding out_of_bounds
no_101_changes = refl

the_first_part_too_long_is_told : out_of_bounds (mutation (put_of [] [] ∷ put_of (bytes 1025) [] ∷ record { family = bytes 1025; qualifier = []; visibility = []; time = None; value = None } ∷ [])) ≡ Some (bound 2 qualifier_part)
unfolding out_of_bounds first_too_long too_long
the_first_part_too_long_is_told = refl

in_a_change_the_family_comes_first : out_of_bounds (mutation (record { family = bytes 1025; qualifier = bytes 1025; visibility = bytes 1025; time = None; value = None } ∷ [])) ≡ Some (bound 1 family_part)
unfolding out_of_bounds first_too_long too_long
in_a_change_the_family_comes_first = refl

no_longer_visibility : out_of_bounds (mutation (record { family = []; qualifier = []; visibility = bytes 1025; time = None; value = None } ∷ [])) ≡ Some (bound 1 visibility_part)
unfolding out_of_bounds first_too_long too_long
no_longer_visibility = refl

-- a configuration whose combiner reads one byte in the column `x`; family `t` has times from clients; neither takes deletes
abbrev of_one_byte : Reduction
of_one_byte = record tally { reads = λ b. nat_eq (length b) 1 }

abbrev is_x : Cell → Bool
is_x e = bytes_eq e.key.qualifier (codes "x")

abbrev rules : Rules
rules = record {
  base = combine is_x of_one_byte false ∷ [];
  minor = [];
  major = [];
  scan_combiners = [];
  scan_rest = λ list. list;
  plain = λ e. not (bytes_eq e.key.family (codes "t"));
  may_delete = λ e. not (is_x e) && not (bytes_eq e.key.family (codes "t"));
}

abbrev timed : Option (List ℕ) → Change
timed value = record { family = codes "t"; qualifier = codes "y"; visibility = []; time = Some (pos 9); value = value }

a_put_comes_in : ingest rules 0 (mutation (put_of (codes "x") (codes "a") ∷ put_of (codes "y") (codes "any text") ∷ timed (Some []) ∷ [])) ≡ None
unfolding ingest out_of_bounds first_too_long too_long first_twice is_twin first_where is_refused_delete is_mistimed is_unread is_read
a_put_comes_in = refl

no_column_is_put_twice : ingest rules 0 (mutation (put_of (codes "y") (codes "a") ∷ put_of (codes "z") (codes "b") ∷ put_of (codes "y") (codes "c") ∷ [])) ≡ Some (duplicate 3)
unfolding ingest out_of_bounds first_too_long too_long first_twice is_twin
no_column_is_put_twice = refl

a_put_and_a_delete_of_one_column_are_no_duplicate : ingest rules 0 (mutation (put_of (codes "y") (codes "a") ∷ delete_of (codes "y") ∷ [])) ≡ None
unfolding ingest out_of_bounds first_too_long too_long first_twice is_twin first_where is_refused_delete is_mistimed is_unread is_read
a_put_and_a_delete_of_one_column_are_no_duplicate = refl

no_delete_where_a_combiner_refuses_it : ingest rules 0 (mutation (put_of (codes "y") (codes "a") ∷ delete_of (codes "x") ∷ [])) ≡ Some (delete_here 2)
unfolding ingest out_of_bounds first_too_long too_long first_twice is_twin first_where is_refused_delete
no_delete_where_a_combiner_refuses_it = refl

no_time_in_a_plain_family : ingest rules 0 (mutation (record { family = codes "n"; qualifier = codes "y"; visibility = []; time = Some (pos 9); value = Some [] } ∷ [])) ≡ Some (time_here 1)
unfolding ingest out_of_bounds first_too_long too_long first_twice is_twin first_where is_refused_delete is_mistimed
no_time_in_a_plain_family = refl

no_put_without_a_time_in_another : ingest rules 0 (mutation (record { family = codes "t"; qualifier = codes "y"; visibility = []; time = None; value = Some [] } ∷ [])) ≡ Some (time_here 1)
unfolding ingest out_of_bounds first_too_long too_long first_twice is_twin first_where is_refused_delete is_mistimed
no_put_without_a_time_in_another = refl

no_delete_in_a_family_of_times : ingest rules 0 (mutation (timed None ∷ [])) ≡ Some (delete_here 1)
unfolding ingest out_of_bounds first_too_long too_long first_twice is_twin first_where is_refused_delete
no_delete_in_a_family_of_times = refl

no_delete_with_a_time : ingest rules 0 (mutation (record { family = codes "n"; qualifier = codes "y"; visibility = []; time = Some (pos 9); value = None } ∷ [])) ≡ Some (time_here 1)
unfolding ingest out_of_bounds first_too_long too_long first_twice is_twin first_where is_refused_delete is_mistimed
no_delete_with_a_time = refl

no_value_that_a_combiner_does_not_read : ingest rules 0 (mutation (put_of (codes "y") (codes "ab") ∷ put_of (codes "x") (codes "ab") ∷ [])) ≡ Some (bad_value 2)
unfolding ingest out_of_bounds first_too_long too_long first_twice is_twin first_where is_refused_delete is_mistimed is_unread is_read
no_value_that_a_combiner_does_not_read = refl

-- one check goes over the whole mutation before the next
checks_go_over_the_whole_mutation : ingest rules 0 (mutation (put_of (codes "x") (codes "ab") ∷ delete_of (codes "x") ∷ delete_of (codes "x") ∷ [])) ≡ Some (duplicate 3)
unfolding ingest out_of_bounds first_too_long too_long first_twice is_twin
checks_go_over_the_whole_mutation = refl

a_log_has_524288_mutations : ingest rules 524288 (mutation (put_of (codes "y") [] ∷ [])) ≡ Some full_log
unfolding ingest out_of_bounds first_too_long too_long first_twice is_twin first_where is_refused_delete is_mistimed is_unread is_read
a_log_has_524288_mutations = refl

the_last_one_comes_in : ingest rules 524287 (mutation (put_of (codes "y") [] ∷ [])) ≡ None
unfolding ingest out_of_bounds first_too_long too_long first_twice is_twin first_where is_refused_delete is_mistimed is_unread is_read
the_last_one_comes_in = refl

a_full_log_is_told_last : ingest rules 524288 (mutation (put_of (codes "x") (codes "ab") ∷ [])) ≡ Some (bad_value 1)
unfolding ingest out_of_bounds first_too_long too_long first_twice is_twin first_where is_refused_delete is_mistimed is_unread is_read
a_full_log_is_told_last = refl
