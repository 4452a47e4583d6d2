use Rattle.std.proofs.Common.{sym, ◌∙◌, arith}
use Rattle.cell_key.specs.Ranges.{cut_of}
use Rattle.cell_key.specs.Views.{cell_of}
use Rattle.sorted_file.proofs.Blocks.{none_behind}
use Rattle.sorted_file.proofs.seeking.last_block_before.Goals as goal

pub loop-low-preserved : goal.loop-low-preserved
loop-low-preserved c = record {
  few = c.loop-low.invariant.few;
  within = omega (arith, c.block-block.ensures.within);
  spot = c.block-block.ensures.spot;
  passed = none_behind (cut_of c.args.bound.now) c.args.file.now.cells c.block-block.result.index (cell_of c.entry.result) c.start-last.ensures.list.ascends c.entry.ensures (sym c.lies_behind.ensures ∙ c.if-lies_behind.false);
}
