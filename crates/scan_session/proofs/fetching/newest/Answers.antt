use Rattle.std.specs.Arc.{arc_value}
use Rattle.scan_session.proofs.Extensions.{answer_extends}
use Rattle.scan_session.proofs.fetching.newest.Goals as goal

pub returns-in-Some-clause-extends : goal.returns-in-Some-clause-extends
returns-in-Some-clause-extends g c =
    answer_extends (g.V.Views.looks c.args.views.now) (g.V.Views.newest c.args.views.now) (g.V.Views.newest c.newer.new.self) c.version.result c.in_ok-view.field-0 c.in-Some.view
    (arc_value c.args.pinned.now) c.in-Some.is c.requires c.in_ok-view.ensures.found c.in_ok-view.ensures.blind
