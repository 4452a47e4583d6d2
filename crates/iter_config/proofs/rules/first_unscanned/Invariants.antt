use Rattle.std.proofs.Common.{◌≡◌, drop}
use Rattle.iter_config.specs.Rules.{first_unscanned}
use Rattle.iter_config.proofs.rules.first_unscanned.Given as goal

abbrev pub invariant-loop-spec : goal.invariant-loop-spec
invariant-loop-spec l = first_unscanned l.priorities (drop l.spec-index l.iterators) ≡ first_unscanned l.priorities l.iterators
