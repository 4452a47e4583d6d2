use Rattle.std.proofs.Common.{◌≡◌, drop}
use Rattle.iter_config.specs.Rules.{all_scopes, first_gap}
use Rattle.iter_config.proofs.rules.first_gap.Given as goal

abbrev pub invariant-loop-spec : goal.invariant-loop-spec
invariant-loop-spec l = first_gap l.priorities l.before (drop l.spec-index l.iterators) ≡ first_gap l.priorities all_scopes l.iterators
