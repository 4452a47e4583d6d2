use Rattle.std.proofs.Common.{◌≡◌, drop, take}
use Rattle.iter_config.specs.Rules.{clashes, first_clash, first_repeat, own_number}
use Rattle.iter_config.proofs.rules.first_repeat.Given as goal

abbrev pub invariant-loop-i : goal.invariant-loop-i
invariant-loop-i l = first_clash own_number (clashes l.rule) (take l.i l.iterators) (drop l.i l.iterators) ≡ first_repeat l.rule l.iterators
