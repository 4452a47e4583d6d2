use Rattle.std.proofs.Common.{◌≡◌, map, take}
use Rattle.tablet_view.specs.LogParts.{change_in}
use Rattle.tablet_view.proofs.same_entries.same_changes.Given as goal

abbrev pub invariant-loop-i : goal.invariant-loop-i
invariant-loop-i l = take l.i (map (change_in l.config) l.a) ≡ take l.i (map (change_in l.config) l.b)
