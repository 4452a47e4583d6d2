use Rattle.std.proofs.Common.{◌∙◌, List, ℕ, Some, sym, ap, subst}
use Rattle.tablet_model.specs.Cell.{Cell}
use Rattle.sorted_file.specs.Outlines.{IsOutlined}
use Rattle.sorted_file.proofs.Places.{around}
use Rattle.sorted_file.proofs.file.SortedFile.entry.Goals as goal

pub slices-requires : goal.slices-requires
slices-requires c =
    let a = around c.args.self.now.cells c.args.spot.index c.requires.within in
    (a.entry, subst (λ (b : List ℕ). IsOutlined b a.entry c.args.spot.outline) (sym c.bytes.ensures.image) (c.requires.spot a.entry a.is_entry).0)

pub returns : goal.returns
returns c =
    let a = around c.args.self.now.cells c.args.spot.index c.requires.within in
    a.is_entry ∙ ap (λ (e : Cell). Some e) (sym (c.slices.ensures a.entry (subst (λ (b : List ℕ). IsOutlined b a.entry c.args.spot.outline) (sym c.bytes.ensures.image) (c.requires.spot a.entry a.is_entry).0)))
