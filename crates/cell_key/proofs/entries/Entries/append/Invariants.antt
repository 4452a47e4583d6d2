use Rattle.std.proofs.Common.{◌≡◌, ◌++◌, take}
use Rattle.cell_key.proofs.entries.Entries.append.Given as goal

abbrev pub invariant-loop-entry : goal.invariant-loop-entry
invariant-loop-entry l = l.self ≡ l.fn.self ++ take l.entry-index l.other
