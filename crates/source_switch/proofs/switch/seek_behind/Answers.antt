use Rattle.std.proofs.Common.{[], ◌∙◌, ap, List, is_ok, if◌then◌else◌}
use Rattle.tablet_model.specs.Cell.{Cell}
use Rattle.tablet_model.specs.Cuts.{within}
use Rattle.tablet_model.specs.Places.{after}
use Rattle.cell_key.specs.Ranges.{span_of, place_of}
use Rattle.source_switch.proofs.Seeking.{sought_behind}
use Rattle.source_switch.proofs.switch.seek_behind.Goals as goal

pub returns-clause-rest : goal.returns-clause-rest
returns-clause-rest g c =
    let cells : List Cell = g.S.SortedSource.cells c.args.stack.now in
    c.seek.ensures.rest
    ∙ ap (λ (list : List Cell). if is_ok c.seek.result then list else [])
    (sought_behind (span_of c.after-range.result) (span_of c.range.result) (place_of c.args.position.now) cells c.after-range.ensures
    ∙ ap (λ span. after (place_of c.args.position.now) (within span cells)) c.range.ensures)
