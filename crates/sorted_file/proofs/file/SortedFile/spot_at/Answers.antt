use Rattle.std.proofs.Common.{length, sym, ap, subst, ◌∙◌, ◌+◌, arith}
use Rattle.cell_key.specs.Views.{cell_of}
use Rattle.sorted_file.specs.Contents.{FileContents}
use Rattle.sorted_file.specs.Lists.{IsFileList}
use Rattle.sorted_file.specs.Versions.{same_bytes}
use Rattle.sorted_file.specs.declared.version.Version.{Version}
use Rattle.sorted_file.proofs.Layouts.{entry_ends, later, spot_is}
use Rattle.sorted_file.proofs.file.SortedFile.spot_at.Goals as goal

pub overflow_add-place : goal.overflow_add-place
overflow_add-place c =
    let file = c.args.self.now in
    let taken = c.taken_at-taken in
    let size = ap (λ (v : Version). length (same_bytes v taken.result.same)) (sym (c.self.invariant.version ∙ ap (λ (f : FileContents). f.version) c.self.view_is)) ∙ c.same_size.ensures taken.result.same in
    omega (
      arith,
      entry_ends file c.args.index c.args.place c.same_size.result taken.result.rest.at taken.result.same (cell_of taken.result.entry) c.requires.within c.requires.place size taken.ensures.entry taken.ensures.same taken.ensures.next,
      later taken.result.same (c.args.place + c.same_size.result) (cell_of taken.result.entry),
    )

pub behind-outline-requires : goal.behind-outline-requires
behind-outline-requires c =
    let file = c.args.self.now in
    let taken = c.taken_at-taken in
    let size = ap (λ (v : Version). length (same_bytes v taken.result.same)) (sym (c.self.invariant.version ∙ ap (λ (f : FileContents). f.version) c.self.view_is)) ∙ c.same_size.ensures taken.result.same in
    entry_ends file c.args.index c.args.place c.same_size.result taken.result.rest.at taken.result.same (cell_of taken.result.entry) c.requires.within c.requires.place size taken.ensures.entry taken.ensures.same taken.ensures.next

pub returns-clause-spot : goal.returns-clause-spot
returns-clause-spot c =
    let file = c.args.self.now in
    let taken = c.taken_at-taken in
    let size = ap (λ (v : Version). length (same_bytes v taken.result.same)) (sym (c.self.invariant.version ∙ ap (λ (f : FileContents). f.version) c.self.view_is)) ∙ c.same_size.ensures taken.result.same in
    spot_is file c.args.index c.args.place c.same_size.result c.args.near c.none.result c.unwrap_or.result taken.result.same (cell_of taken.result.entry) c.behind-outline.result (subst (λ (f : FileContents). IsFileList f.cells) c.self.view_is c.self.invariant.list) c.requires.within c.requires.place
    c.requires.near c.unwrap_or.ensures size taken.ensures.entry (sym taken.ensures.same) c.behind-outline.ensures
