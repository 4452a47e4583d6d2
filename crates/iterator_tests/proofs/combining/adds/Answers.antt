use Rattle.std.specs.Arc.{arc_value}
use Rattle.number_values.specs.Arrays.{array_reduction}
use Rattle.iter_contract.specs.VecRest.{vec_cells}
use Rattle.iterator_tests.specs.Examples.{example_names, example_arrays}
use Rattle.iterator_tests.proofs.ExampleRows.{arrays_read, arrays_sums, front_read, arrays_front}
use Rattle.iterator_tests.proofs.combining.adds.Goals as goal

pub new-requires-2-clause-read : goal.new-requires-2-clause-read
new-requires-2-clause-read c =
    arrays_read (arc_value c.in_ok-columns.columns) example_names (array_reduction c.in_ok-reducer.reducer.encoding) (vec_cells c.args.source) example_arrays
    c.in_ok-columns.ensures c.in_ok-reducer.ensures.reduction c.requires arrays_sums

pub new-requires-2-clause-in_front : goal.new-requires-2-clause-in_front
new-requires-2-clause-in_front c =
    front_read (arc_value c.in_ok-columns.columns) (vec_cells c.args.source) example_arrays c.in_ok-columns.ensures c.requires arrays_front
