use Rattle.std.proofs.Common.{ap, sym, ◌∙◌}
use Rattle.std.specs.List.{slice_get}
use Rattle.std.specs.Arc.{arc_value}
use Rattle.sorted_file.specs.Contents.{FileContents}
use Rattle.cell_key.specs.Views.{cell_of}
use Rattle.iter_contract.proofs.Partition.{first_between}
use Rattle.sorted_file.proofs.cursor.FileCursorSortedSource.top.Goals as goal

pub returns-then-self : goal.returns-then-self
returns-then-self c =
    let list = (arc_value c.args.self.now.file).cells in
    let at = c.args.self.now.top.index in
    first_between list at c.args.self.now.end (cell_of c.entry.result) c.if-self.true (ap (λ (f : FileContents). slice_get f.cells at) (sym c.deref.ensures) ∙ c.entry.ensures)
