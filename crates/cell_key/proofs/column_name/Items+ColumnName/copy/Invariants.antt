use Rattle.std.proofs.Common.{◌≡◌, take}
use Rattle.cell_key.proofs.column_name.Items+ColumnName.copy.Given as goal

abbrev pub invariant-loop-name : goal.invariant-loop-name
invariant-loop-name l = l.columns ≡ take l.name-index l.self
