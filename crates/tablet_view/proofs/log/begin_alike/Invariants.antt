use Rattle.std.proofs.Common.{◌≡◌, map, take}
use Rattle.tablet_view.specs.LogParts.{all_in, mutation_in}
use Rattle.tablet_view.proofs.log.begin_alike.Given as goal

abbrev pub invariant-loop-i : goal.invariant-loop-i
invariant-loop-i l = take l.i (map (mutation_in l.config) (all_in l.runs)) ≡ take l.i (map (mutation_in l.config) (all_in l.others))
