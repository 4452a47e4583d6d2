use Rattle.std.proofs.Common.{map, arith, ap, ◌∙◌}
use Rattle.std.proofs.lemmas.List.{take_all}
use Rattle.std.specs.Arc.{arc_value}
use Rattle.tablet_view.specs.FileParts.{file_of}
use Rattle.tablet_view.specs.declared.files.StoredFile.{StoredFile}
use Rattle.tablet_view.proofs.OtherFiles.{file_cells}
use Rattle.tablet_view.proofs.files.Files.cursors.Goals as goal

pub returns : goal.returns
returns c =
    let stored = c.deref-stored-items.result.now in
    c.loop-stored.invariant
    ∙ ap (map (λ (f : StoredFile). (arc_value f.file).cells)) (take_all c.loop-stored.stored-index stored (omega arith))
    ∙ file_cells stored
    ∙ ap (λ files. map (λ f. f.cells) (map file_of files)) c.deref-stored-items.ensures.value
    ∙ ap (map (λ f. f.cells)) c.self.view_is
