use Rattle.std.proofs.Common.{rules, false, sym, ap, ◌∙◌, subst}
use Rattle.std.specs.Prelude.{if◌then◌else◌, ⊤}
use Rattle.tablet_model.specs.Combines.{combine_columns}
use Rattle.cell_key.specs.Listed.{column_listed}
use Rattle.number_values.specs.Values.{reduction_of}
use Rattle.number_values.specs.declared.op.Op.{Op}
use Rattle.combiners.specs.ArrayParts.{array_reducer_reduction}
use Rattle.combiners.specs.LongParts.{long_reduction}
use Rattle.iter_stack.specs.LevelStages.{AreCombinable, IsFresh}
use Rattle.iter_stack.specs.Usages.{is_of_arrays}
use Rattle.iter_stack.specs.declared.stage.LevelStage.TheVariants as level
use Rattle.iter_stack.proofs.Alike.{fresh_numbers, fresh_sums}
use Rattle.iter_stack.proofs.stage.LevelStage.combiner.Goals as goal

pub returns-in_ok-stage-in-Sum : goal.returns-in_ok-stage-in-Sum
returns-in_ok-stage-in-Sum c =
    let made = c.in_ok-stage-in-Sum.ensures in
    fresh_numbers c.args.columns.now c.args.op c.args.encoding (search rules) c.in_ok-stage-in-Sum.stage (search rules)
    (ap long_reduction made.reducer ∙ c.new-reducer.ensures.reduction) made.unsought

pub returns-in_ok-stage-in-ArraySum : goal.returns-in_ok-stage-in-ArraySum
returns-in_ok-stage-in-ArraySum c =
    let made = c.in_ok-stage-in-ArraySum.ensures in
    let stage = c.in_ok-stage-in-ArraySum.stage in
    let columns = c.args.columns.now in
    subst (λ (o : Op). IsFresh (combine_columns (column_listed columns) (reduction_of o c.args.encoding)) (λ source. if is_of_arrays o then false else source) (AreCombinable columns (reduction_of o c.args.encoding)) (λ count. ⊤) (level.CombineArrays stage))
    (sym c.in-ArraySum.is)
    (fresh_sums columns c.args.encoding stage (search rules) (ap array_reducer_reduction made.reducer ∙ c.in_ok-reducer-in-ArraySum.ensures.reduction) made.unsought)
