use Rattle.std.proofs.Common.{refl, sym, subst}
use Rattle.iter_stack.specs.LevelStages.{stage_cells, stage_steady, StageCounts, StageTakes, IsFresh}
use Rattle.iter_stack.specs.declared.stage.LevelStage.{LevelStage}
use Rattle.iter_stack.specs.declared.stage.LevelStage.TheVariants as level
use Rattle.iter_stack.proofs.Alike.{fresh_longs, fresh_arrays, fresh_drop}
use Rattle.iter_stack.proofs.stage.LevelStage.fresh.Goals as goal

pub returns-in_ok-fresh-in-CombineLongs : goal.returns-in_ok-fresh-in-CombineLongs
returns-in_ok-fresh-in-CombineLongs c =
    let same = c.in_ok-fresh-in-CombineLongs.ensures in
    let copy = c.in_ok-fresh-in-CombineLongs.field-0 in
    subst (λ (s : LevelStage). IsFresh (stage_cells s) (stage_steady s) (StageTakes s) (StageCounts s) (level.CombineLongs copy)) (sym c.in-CombineLongs.is)
    (fresh_longs _ _ _ copy same.columns same.reduction same.unsought (λ source. refl))

pub returns-in_ok-fresh-in-CombineArrays : goal.returns-in_ok-fresh-in-CombineArrays
returns-in_ok-fresh-in-CombineArrays c =
    let same = c.in_ok-fresh-in-CombineArrays.ensures in
    let copy = c.in_ok-fresh-in-CombineArrays.field-0 in
    subst (λ (s : LevelStage). IsFresh (stage_cells s) (stage_steady s) (StageTakes s) (StageCounts s) (level.CombineArrays copy)) (sym c.in-CombineArrays.is)
    (fresh_arrays _ _ _ copy same.columns same.reduction same.unsought (λ source. refl))

pub returns-in_ok-fresh-in-Drop : goal.returns-in_ok-fresh-in-Drop
returns-in_ok-fresh-in-Drop c =
    let same = c.in_ok-fresh-in-Drop.ensures in
    let copy = c.in_ok-fresh-in-Drop.field-0 in
    subst (λ (s : LevelStage). IsFresh (stage_cells s) (stage_steady s) (StageTakes s) (StageCounts s) (level.Drop copy)) (sym c.in-Drop.is)
    (fresh_drop copy c.in-Drop.cursor same.made same.unsought)
