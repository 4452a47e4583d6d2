use Rattle.std.proofs.Common.{rules, [], ap, sym, ◌∙◌}
use Rattle.std.specs.Arc.{arc_value}
use Rattle.intersecting.specs.Firsts.{at_first}
use Rattle.iter_stack.specs.LevelStages.{stage_cells}
use Rattle.iter_stack.specs.Levels.{level_cells}
use Rattle.iter_stack.proofs.Alike.{combined_alike, made_alike}
use Rattle.iter_stack.proofs.level.LevelSortedSource.next.Goals as goal

pub returns-in-CombineLongs-clause-cells : goal.returns-in-CombineLongs-clause-cells
unfolding level_cells
returns-in-CombineLongs-clause-cells g c =
    let same = c.combine_next.ensures in
    combined_alike (ap arc_value same.columns) same.reduction (search rules)
    ∙ ap (λ s. stage_cells s (at_first g.S.SortedSource.cells [] c.args.self.now.sources.items)) (sym c.in-CombineLongs.is)

pub returns-in-CombineArrays-clause-cells : goal.returns-in-CombineArrays-clause-cells
unfolding level_cells
returns-in-CombineArrays-clause-cells g c =
    let same = c.combine_next-in-CombineArrays.ensures in
    combined_alike (ap arc_value same.columns) same.reduction (search rules)
    ∙ ap (λ s. stage_cells s (at_first g.S.SortedSource.cells [] c.args.self.now.sources.items)) (sym c.in-CombineArrays.is)

pub returns-in-Drop-clause-cells : goal.returns-in-Drop-clause-cells
unfolding level_cells
returns-in-Drop-clause-cells g c =
    made_alike c.staged_next.ensures.made (search rules)
    ∙ ap (λ s. stage_cells s (at_first g.S.SortedSource.cells [] c.args.self.now.sources.items)) (sym c.in-Drop.is)
