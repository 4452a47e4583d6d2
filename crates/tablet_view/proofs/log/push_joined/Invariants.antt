use Rattle.std.proofs.Common.{◌≡◌, ◌≤◌, ◌++◌, length}
use Rattle.tablet_view.specs.LogParts.{all_in}
use Rattle.tablet_model.specs.Runs.{AreHalving}
use Rattle.tablet_view.proofs.log.push_joined.Given as goal

abbrev pub invariant-loop-before : goal.invariant-loop-before
invariant-loop-before l =
    (all_in l.runs.items ++ l.last ≡ all_in l.fn.runs.items ++ l.fn.last)
    × AreHalving (λ run. length run) l.runs.items
    × (1 ≤ length l.last)

abbrev pub decreases-loop-before : goal.decreases-loop-before
decreases-loop-before l = length l.runs.items
