use Rattle.std.proofs.Common.{◌≡◌, take}
use Rattle.cell_key.proofs.families.copied_names.Given as goal

abbrev pub invariant-loop-name : goal.invariant-loop-name
invariant-loop-name l = l.list ≡ take l.name-index l.names
