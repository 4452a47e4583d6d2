use Rattle.std.proofs.Common.{◌≡◌, ◌+◌, map, drop}
use Rattle.tablet_model.specs.Ingest.{first_where}
use Rattle.cell_key.specs.Mutations.{change_of}
use Rattle.ingest.specs.Checks.{is_mistimed}
use Rattle.ingest.proofs.checks.first_mistimed.Given as goal

abbrev pub invariant-loop-i : goal.invariant-loop-i
invariant-loop-i l =
    first_where (is_mistimed l.config) (l.i + 1) (map change_of (drop l.i l.updates)) ≡ first_where (is_mistimed l.config) 1 (map change_of l.updates)
