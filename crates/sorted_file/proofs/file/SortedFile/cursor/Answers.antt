use Rattle.std.proofs.Common.{subst, arith}
use Rattle.std.specs.Arc.{arc_value}
use Rattle.sorted_file.specs.Contents.{FileContents}
use Rattle.sorted_file.specs.Lists.{IsFileList}
use Rattle.sorted_file.specs.Outlines.{IsSpot}
use Rattle.sorted_file.proofs.Places.{bounded}
use Rattle.sorted_file.proofs.file.SortedFile.cursor.Goals as goal

pub invariant_of-result : goal.invariant_of-result
invariant_of-result c =
    let list = subst (λ (f : FileContents). IsFileList f.cells) c.deref.ensures c.start-top.ensures.list in
    record {
      order = omega (arith, c.start-top.ensures.index);
      bound = omega arith;
      is_spot = subst (λ (f : FileContents). IsSpot f c.start-top.result) c.deref.ensures c.start-top.ensures.spot;
      is_sorted = list.ascends;
      is_bounded = bounded (arc_value c.in_ok-file.file).cells list;
    }
