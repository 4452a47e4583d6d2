use Rattle.std.proofs.Common.{sym, subst}
use Rattle.std.specs.List.{AllByRecursion}
use Rattle.tablet_model.specs.Reading.{AreUnmarkedRead}
use Rattle.iter_config.specs.Stages.{stages_of}
use Rattle.compactor.specs.FileValues.{HasShortValue}
use Rattle.compactor.specs.PartCells.{union_of}
use Rattle.iter_stack.specs.Usages.{usage_cells}
use Rattle.compactor.proofs.Stored.{storable_read, usage_short}
use Rattle.compactor.proofs.job.compact_parts.Goals as goal

pub compact-requires-clause-read : goal.compact-requires-clause-read
compact-requires-clause-read c =
    let specs = c.args.config.now in
    subst (AreUnmarkedRead (stages_of specs)) (sym c.in_ok-merged.ensures.cells) (storable_read specs (union_of c.args.parts.now) c.requires.storable)

pub compact-requires-clause-short : goal.compact-requires-clause-short
compact-requires-clause-short c =
    let specs = c.args.config.now in
    subst (λ list. AllByRecursion HasShortValue (usage_cells specs c.args.usage list)) (sym c.in_ok-merged.ensures.cells)
    (usage_short specs c.count.ensures.rules c.args.usage c.requires.compacts (union_of c.args.parts.now) c.requires.storable)
