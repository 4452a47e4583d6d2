-- The checks of mutations by what a configuration says. All of this is this project's own.
use Rattle.std.specs.Prelude.{ℕ, Bool, cond, not, ◌&&◌, ◌||◌, [], nat_lt, Option, Some, None, is_some, unwrap_or, option_map}
use Rattle.std.specs.Option.{option_or}
use Rattle.tablet_model.specs.Limits.{max_mutations}
use Rattle.tablet_model.specs.History.{Change, RowChange, is_delete}
use Rattle.tablet_model.specs.Ingest.{Refusal, duplicate, delete_here, time_here, bad_value, full_log, first_twice, first_where, out_of_bounds}
use Rattle.iter_config.specs.Columns.{is_timed, reads_value, refuses_delete}
use Rattle.iter_config.specs.Settings.{Settings}

-- a delete where the configuration refuses deletes
abbrev pub is_refused_delete : Settings → Change → Bool
is_refused_delete c u = is_delete u.value && refuses_delete c u.family u.qualifier

-- a time of its own at a delete or in a family that isn't timed, or a put without one in a timed family
abbrev pub is_mistimed : Settings → Change → Bool
is_mistimed c u = is_some u.time && (is_delete u.value || not (is_timed c u.family)) || not (is_some u.time) && (is_some u.value && is_timed c u.family)

-- a put of a value that the configuration doesn't read
abbrev pub is_unread : Settings → Change → Bool
is_unread c u = is_some u.value && not (reads_value c u.family u.qualifier (unwrap_or u.value []))

-- the first broken check behind a log of n mutations
abbrev pub first_broken : Settings → ℕ → RowChange → Option Refusal
first_broken c n m = option_or (out_of_bounds m)
    (option_or (option_map duplicate (first_twice [] 1 m.changes))
    (option_or (option_map delete_here (first_where (is_refused_delete c) 1 m.changes))
    (option_or (option_map time_here (first_where (is_mistimed c) 1 m.changes))
    (option_or (option_map bad_value (first_where (is_unread c) 1 m.changes))
    (cond (nat_lt n max_mutations) None (Some full_log))))))
