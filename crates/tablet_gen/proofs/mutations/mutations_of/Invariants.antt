use Rattle.std.proofs.Common.{◌≡◌, ◌*◌, map}
use Rattle.cell_key.specs.Mutations.{row_change_of}
use Rattle.tablet_gen.specs.Draws.{state_behind}
use Rattle.tablet_gen.specs.Mutations.{mutations_of}
use Rattle.tablet_gen.proofs.mutations.mutations_of.Given as goal

abbrev pub invariant-loop : goal.invariant-loop
invariant-loop l = record {
  state : l.draws.state ≡ state_behind (4 * l.counter) l.start;
  list : map row_change_of l.list ≡ mutations_of l.counter l.start;
}
