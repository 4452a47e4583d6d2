use Rattle.std.proofs.Common.{◌≡◌, ◌+◌, Bool, None, take, sym, ap, subst, ◌∙◌, arith}
use Rattle.std.specs.List.{last_or}
use Rattle.std.specs.Bool.{then_some}
use Rattle.sorted_file.specs.Contents.{FileContents}
use Rattle.sorted_file.specs.Image.{image_of, neighbour}
use Rattle.sorted_file.specs.Outlines.{AreOutlined}
use Rattle.sorted_file.specs.Versions.{has_neighbour}
use Rattle.sorted_file.specs.declared.version.Version.{Version}
use Rattle.sorted_file.proofs.Layouts.{near_outlined, no_spot}
use Rattle.sorted_file.proofs.Places.{around, last_up_to}
use Rattle.sorted_file.proofs.file.SortedFile.next.Goals as goal

pub returns-then-index-count-clause-spot : goal.returns-then-index-count-clause-spot
returns-then-index-count-clause-spot c = no_spot c.args.self.now (c.args.spot.index + 1) c.none.result (omega (arith, c.len-count.ensures.length))

pub spot_at-requires-clause-place : goal.spot_at-requires-clause-place
spot_at-requires-clause-place c =
    let a = around c.args.self.now.cells c.args.spot.index c.requires.within in
    (c.requires.spot a.entry a.is_entry).1

pub spot_at-requires-clause-near : goal.spot_at-requires-clause-near
spot_at-requires-clause-near c =
    let file = c.args.self.now in
    let i = c.args.spot.index in
    let image = image_of file.version file.cells in
    let before = last_or None (take (i + 1) file.cells) in
    let a = around file.cells i c.requires.within in
    let version_is : c.self.inside.version ≡ file.version = c.self.invariant.version ∙ ap (λ (f : FileContents). f.version) c.self.view_is in
    let near_is = c.then_some-near.ensures ∙ ap (λ (b : Bool). then_some b c.args.spot.outline) (c.shares.ensures ∙ ap (λ (v : Version). has_neighbour v (i + 1)) version_is) in
    subst (AreOutlined image (neighbour file.version (i + 1) before)) (sym near_is)
    (near_outlined image file.version (i + 1) before c.args.spot.outline (λ h. (a.entry, last_up_to file.cells i a, (c.requires.spot a.entry a.is_entry).0)))
