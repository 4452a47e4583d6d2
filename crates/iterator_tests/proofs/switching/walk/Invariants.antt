use Rattle.std.proofs.Common.{◌≤◌}
use Rattle.iter_contract.specs.VecRest.{vec_cells}
use Rattle.source_switch.specs.SwitchParts.{switch_state}
use Rattle.iterator_tests.proofs.switching.walk.Given as goal

abbrev pub invariant-loop : goal.invariant-loop
invariant-loop l = let state = switch_state vec_cells l.it in (state.version ≤ l.provider.version) × (state.n ≤ l.provider.n)
