use Rattle.std.proofs.Common.{ap, ◌∙◌}
use Rattle.stages.proofs.tested.filter_by.Goals as goal

pub returns : goal.returns
returns g c =
    let cells = g.S.SortedSource.cells c.args.source in
    let same = c.new-2.ensures in
    record {
      same_cells = same.same_cells ∙ ap (λ f. f cells) c.new.ensures;
      unsought = same.unsought;
      same_steady = same.same_steady;
      is_valid = same.is_valid;
    }
