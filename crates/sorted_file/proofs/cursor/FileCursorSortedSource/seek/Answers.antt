use Rattle.std.proofs.Common.{◌≡◌, ◌-◌, length, drop, take, ap, subst, arith}
use Rattle.std.specs.List.{filter}
use Rattle.std.specs.Arc.{arc_value}
use Rattle.sorted_file.specs.Contents.{FileContents}
use Rattle.tablet_model.specs.Cuts.{is_behind, is_before}
use Rattle.cell_key.specs.Ranges.{cut_of, span_of}
use Rattle.sorted_file.specs.Outlines.{IsSpot}
use Rattle.sorted_file.proofs.Walks.{sought}
use Rattle.sorted_file.proofs.cursor.FileCursorSortedSource.seek.Goals as goal

pub returns-clause-rest : goal.returns-clause-rest
returns-clause-rest c =
    let list = (arc_value c.args.self.now.file).cells in
    let at = c.first_behind-top.result.index in
    let end = c.end_before-end.result in
    sought (span_of c.args.range.now) list at end
    (subst (λ (f : FileContents). filter (λ e. is_behind (cut_of c.args.range.now.start) e.key) f.cells ≡ drop at f.cells) c.deref-file.ensures c.first_behind-top.ensures.behind)
    (subst (λ (f : FileContents). filter (λ e. is_before (cut_of c.args.range.now.end) e.key) (drop at f.cells) ≡ take (end - at) (drop at f.cells)) c.deref-file.ensures c.end_before-end.ensures.before)

pub invariant_of-self : goal.invariant_of-self
invariant_of-self c =
    let cursor = c.args.self.now in
    record {
      order = c.end_before-end.ensures.order;
      bound = omega (arith, c.end_before-end.ensures.within, ap (λ (f : FileContents). length f.cells) c.deref-file.ensures);
      is_spot = subst (λ (f : FileContents). IsSpot f c.first_behind-top.result) c.deref-file.ensures c.first_behind-top.ensures.spot;
      is_sorted = cursor.is_sorted;
      is_bounded = cursor.is_bounded;
    }
