use Rattle.std.proofs.Common.{◌≡◌, ◌+◌, map, drop}
use Rattle.tablet_model.specs.Ingest.{first_too_long}
use Rattle.cell_key.specs.Mutations.{change_of}
use Rattle.ingest.proofs.bounds.first_long.Given as goal

abbrev pub invariant-loop-i : goal.invariant-loop-i
invariant-loop-i l = first_too_long (l.i + 1) (map change_of (drop l.i l.updates)) ≡ first_too_long 1 (map change_of l.updates)
