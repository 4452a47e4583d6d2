use Rattle.std.proofs.Common.{◌∙◌, ap, sym, Some}
use Rattle.std.specs.List.{slice_get}
use Rattle.std.specs.Arc.{arc_value}
use Rattle.iter_contract.proofs.Partition.{first_between}
use Rattle.iter_contract.proofs.vec_source.VecSourceSortedSource.top.Goals as goal

pub returns-then-self : goal.returns-then-self
returns-then-self c =
    let list = arc_value c.args.self.now.entries in
    ap (λ e. Some e) c.entry.ensures.entry
    ∙ first_between list c.args.self.now.at c.args.self.now.end c.get.result.now c.if-self.true
    (ap (λ l. slice_get l c.args.self.now.at) (sym c.deref.ensures) ∙ c.get.ensures)
