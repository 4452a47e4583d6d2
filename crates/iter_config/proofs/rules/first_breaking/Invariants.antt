use Rattle.std.proofs.Common.{◌≡◌, drop, take}
use Rattle.iter_config.specs.Rules.{clashes, first_breaking, first_clash, number_by}
use Rattle.iter_config.proofs.rules.first_breaking.Given as goal

abbrev pub invariant-loop-i : goal.invariant-loop-i
invariant-loop-i l =
    first_clash (λ before s. number_by l.priorities s) (clashes l.rule) (take l.i l.iterators) (drop l.i l.iterators) ≡ first_breaking l.rule l.priorities l.iterators
