use Rattle.std.proofs.Common.{◌≡◌, map, take}
use Rattle.iter_config.proofs.document.priorities_of.Given as goal

abbrev pub invariant-loop-spec : goal.invariant-loop-spec
invariant-loop-spec l = l.priorities.items ≡ map (λ s. s.priority) (take l.spec-index l.iterators)
