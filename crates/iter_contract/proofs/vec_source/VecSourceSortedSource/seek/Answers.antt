use Rattle.std.proofs.Common.{◌≡◌, ◌∙◌, sym, subst, arith, List, length-take-le}
use Rattle.std.specs.List.{filter}
use Rattle.std.specs.Arc.{arc_value}
use Rattle.tablet_model.specs.Cell.{Cell}
use Rattle.tablet_model.specs.Order.{above}
use Rattle.tablet_model.specs.Sorted.{Ascends}
use Rattle.tablet_model.specs.Cuts.{is_before}
use Rattle.tablet_model.proofs.Orders.{above_exact}
use Rattle.tablet_model.proofs.Sums.{Ascends-filter}
use Rattle.cell_key.specs.Ranges.{cut_of, span_of}
use Rattle.iter_contract.proofs.Partition.{between}
use Rattle.iter_contract.proofs.vec_source.VecSourceSortedSource.seek.Goals as goal

pub count_not_behind-at-requires : goal.count_not_behind-at-requires
count_not_behind-at-requires c =
    let list = arc_value c.args.self.now.entries in
    let shared : c.as_slice-entries.result.now ≡ list = c.as_slice-entries.ensures ∙ c.deref.ensures in
    subst (Ascends above) c.count_before-end.ensures.before
    (subst (λ (l : List Cell). Ascends above (filter (λ e. is_before (cut_of c.args.range.now.end) e.key) l)) (sym shared)
    (Ascends-filter above above_exact (λ e. is_before (cut_of c.args.range.now.end) e.key) list c.args.self.now.is_sorted))

pub returns-clause-rest : goal.returns-clause-rest
returns-clause-rest c =
    let shared : c.as_slice-entries.result.now ≡ arc_value c.args.self.now.entries = c.as_slice-entries.ensures ∙ c.deref.ensures in
    let part = length-take-le c.count_before-end.result c.as_slice-entries.result.now c.count_before-end.ensures.bound in
    rw (sym shared) (between (span_of c.args.range.now) c.as_slice-entries.result.now c.count_not_behind-at.result c.count_before-end.result
    c.count_before-end.ensures.before (omega (arith, part)) c.count_not_behind-at.ensures.behind)
