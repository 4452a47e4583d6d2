use Rattle.std.specs.Arc.{arc_value}
use Rattle.iter_contract.specs.VecRest.{vec_cells}
use Rattle.iterator_tests.specs.Examples.{example_flags}
use Rattle.iterator_tests.proofs.ExampleRows.{front_read, flags_front}
use Rattle.iterator_tests.proofs.combining.any_is_set.Goals as goal

pub new-requires-2-clause-in_front : goal.new-requires-2-clause-in_front
new-requires-2-clause-in_front c =
    front_read (arc_value c.in_ok-columns.columns) (vec_cells c.args.source) example_flags c.in_ok-columns.ensures c.requires flags_front
