use Rattle.std.proofs.Common.{◌∙◌, ap}
use Rattle.iter_stack.specs.Stacks.{stack_cells, stack_rest, stack_steady, stack_valid}
use Rattle.iter_stack.proofs.Steps.{all_made, steady_by_all, sixteen_made, sixteen_steady, first_take, second_take, third_take, fourth_take}
use Rattle.iter_stack.proofs.Runs.{usage_made, usage_keeps_steady}
use Rattle.iter_stack.proofs.Taken.{all_taken}
use Rattle.iter_stack.proofs.building.build.Goals as goal

pub returns : goal.returns
unfolding stack_cells stack_rest stack_steady stack_valid
returns g c =
    let config = c.args.config.now in
    let specs = config.iterators in
    let bottom = c.in_ok-bottom.ensures in
    let one = c.in_ok-one.ensures in
    let two = c.in_ok-two.ensures in
    let three = c.in_ok-three.ensures in
    let four = c.in_ok-levels.ensures in
    record {
      same_cells = sixteen_made c.args.usage specs c.count.ensures.rules.iterators.few _ one.same_cells two.same_cells three.same_cells four.same_cells
          ∙ ap (all_made c.args.usage specs) bottom.same_cells
          ∙ usage_made c.args.usage config (g.S.SortedSource.cells c.args.leaf);
      unsought = four.unsought;
      same_steady = sixteen_steady c.args.usage specs c.count.ensures.rules.iterators.few _ one.same_steady two.same_steady three.same_steady four.same_steady
          ∙ ap (steady_by_all c.args.usage specs) bottom.same_steady
          ∙ usage_keeps_steady c.args.usage config (g.S.SortedSource.steady c.args.leaf);
      is_valid = four.is_valid;
    }

pub four_over-requires-clause-take : goal.four_over-requires-clause-take
four_over-requires-clause-take g c =
    first_take c.args.usage c.args.config.now.iterators _ _ (all_taken c.args.usage c.args.config.now c.count.ensures.rules (g.S.SortedSource.cells c.args.leaf) c.requires.read) c.in_ok-bottom.ensures.same_cells

pub four_over-requires-2-clause-take : goal.four_over-requires-2-clause-take
four_over-requires-2-clause-take g c =
    second_take c.args.usage c.args.config.now.iterators _ _ (all_taken c.args.usage c.args.config.now c.count.ensures.rules (g.S.SortedSource.cells c.args.leaf) c.requires.read) c.in_ok-bottom.ensures.same_cells
    _ c.in_ok-one.ensures.same_cells

pub four_over-requires-3-clause-take : goal.four_over-requires-3-clause-take
four_over-requires-3-clause-take g c =
    third_take c.args.usage c.args.config.now.iterators _ _ (all_taken c.args.usage c.args.config.now c.count.ensures.rules (g.S.SortedSource.cells c.args.leaf) c.requires.read) c.in_ok-bottom.ensures.same_cells
    _ _ c.in_ok-one.ensures.same_cells c.in_ok-two.ensures.same_cells

pub four_over-requires-4-clause-take : goal.four_over-requires-4-clause-take
four_over-requires-4-clause-take g c =
    fourth_take c.args.usage c.args.config.now.iterators _ _ (all_taken c.args.usage c.args.config.now c.count.ensures.rules (g.S.SortedSource.cells c.args.leaf) c.requires.read) c.in_ok-bottom.ensures.same_cells
    _ _ _ c.in_ok-one.ensures.same_cells c.in_ok-two.ensures.same_cells c.in_ok-three.ensures.same_cells
