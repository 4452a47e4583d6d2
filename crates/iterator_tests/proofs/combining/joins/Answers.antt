use Rattle.std.proofs.Common.{◌∙◌}
use Rattle.std.specs.Arc.{arc_value}
use Rattle.number_values.specs.Numbers.{number_reduction}
use Rattle.iter_contract.specs.VecRest.{vec_cells}
use Rattle.iterator_tests.specs.Examples.{example_names, example_cells}
use Rattle.iterator_tests.proofs.ExampleRows.{numbers_read, front_read, example_front}
use Rattle.iterator_tests.proofs.combining.joins.Goals as goal

pub new-requires-clause-read : goal.new-requires-clause-read
new-requires-clause-read c =
    numbers_read c.args.op (arc_value c.in_ok-columns.columns) example_names (number_reduction c.new-reducer.result.op c.new-reducer.result.encoding)
    (vec_cells c.in_ok-deep_copy.field-0) example_cells
    c.in_ok-columns.ensures c.new-reducer.ensures.reduction (c.in_ok-deep_copy.ensures.same_cells ∙ c.requires.cells) c.requires.read

pub new-requires-clause-in_front : goal.new-requires-clause-in_front
new-requires-clause-in_front c =
    front_read (arc_value c.in_ok-columns.columns) (vec_cells c.in_ok-deep_copy.field-0) example_cells
    c.in_ok-columns.ensures (c.in_ok-deep_copy.ensures.same_cells ∙ c.requires.cells) example_front
