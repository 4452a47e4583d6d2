use Rattle.std.proofs.Common.{◌≡◌, ◌+◌, [], map, drop, take}
use Rattle.tablet_model.specs.Ingest.{first_twice}
use Rattle.cell_key.specs.Mutations.{change_of}
use Rattle.ingest.proofs.checks.first_twice.Given as goal

abbrev pub invariant-loop-i : goal.invariant-loop-i
invariant-loop-i l =
    first_twice (map change_of (take l.i l.updates)) (l.i + 1) (map change_of (drop l.i l.updates)) ≡ first_twice [] 1 (map change_of l.updates)
