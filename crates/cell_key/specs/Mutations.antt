-- What updates and mutations of the code say. All of this is this project's own.
use Rattle.std.specs.Prelude.{map}
use Rattle.tablet_model.specs.History.{Change, RowChange}
use Rattle.cell_key.specs.declared.mutation.Update.{Update}
use Rattle.cell_key.specs.declared.mutation.Mutation.{Mutation}

-- the change that an update is
abbrev pub change_of : Update → Change
change_of u =
    record { family = u.family; qualifier = u.qualifier; visibility = u.visibility; time = u.time; value = u.value }

-- the changes of a row that a mutation is
abbrev pub row_change_of : Mutation → RowChange
row_change_of m = record { row = m.row; changes = map change_of m.updates }
