use Rattle.std.proofs.Common.{◌≡◌, ◌+◌, drop, option_map}
use Rattle.std.specs.List.{prefix_len}
use Rattle.tablet_model.specs.Sorted.{first}
use Rattle.cell_key.specs.Views.{cell_of}
use Rattle.iter_contract.specs.Several.{comes_before}
use Rattle.iter_contract.proofs.tops.count_ahead.Given as goal

abbrev pub invariant-loop-place : goal.invariant-loop-place
invariant-loop-place g l =
    l.place + prefix_len (λ s. comes_before (first (g.S.SortedSource.rest s)) (option_map cell_of l.fn.top)) (drop l.place l.sources)
    ≡ prefix_len (λ s. comes_before (first (g.S.SortedSource.rest s)) (option_map cell_of l.fn.top)) l.sources
