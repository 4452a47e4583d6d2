-- The mutations of a log's runs, as their entries. All of this is this project's own.
use Rattle.std.specs.Prelude.{ℕ, ℤ, cond, List, [], ◌∷◌, map, Option, Some, None}
use Rattle.std.specs.List.{flat_map}
use Rattle.tablet_model.specs.Cell.{Cell}
use Rattle.tablet_model.specs.History.{Change, RowChange}
use Rattle.iter_config.specs.Columns.{is_timed}
use Rattle.iter_config.specs.Settings.{Settings}

-- in their order
abbrev pub all_in : List (List (List Cell)) → List (List Cell)
all_in runs = flat_map (λ run. run) runs

-- the value that an entry puts, if it is no marker
abbrev pub value_in : Cell → Option (List ℕ)
value_in e = cond e.key.deleted None (Some e.value)

-- the time that an entry's put brought, if its family's do
abbrev pub own_time_in : Settings → Cell → Option ℤ
own_time_in c e = cond (is_timed c e.key.family) (Some e.key.time) None

-- the change that an entry says
abbrev pub change_in : Settings → Cell → Change
change_in c e = record { family = e.key.family; qualifier = e.key.qualifier; visibility = e.key.visibility; time = own_time_in c e; value = value_in e }

-- the row of the first entry
abbrev pub row_in : List Cell → List ℕ
row_in [] = []
row_in (e ∷ es) = e.key.row

-- the mutation that entries of one row say
abbrev pub mutation_in : Settings → List Cell → RowChange
mutation_in c es = record { row = row_in es; changes = map (change_in c) es }
