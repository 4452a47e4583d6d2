use Rattle.std.proofs.Common.{◌≡◌, false, drop}
use Rattle.iter_config.specs.Rules.{first_beyond_scans}
use Rattle.iter_config.proofs.rules.first_beyond_scans.Given as goal

abbrev pub invariant-loop-spec : goal.invariant-loop-spec
invariant-loop-spec l = first_beyond_scans l.priorities l.alone (drop l.spec-index l.iterators) ≡ first_beyond_scans l.priorities false l.iterators
