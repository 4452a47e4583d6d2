use Rattle.std.proofs.Common.{rules, subst, sym}
use Rattle.std.specs.Arc.{arc_value}
use Rattle.iter_config.specs.Order.{IsConfig}
use Rattle.tablet_view.specs.Snapshot.{IsStanding}
use Rattle.tablet_view.proofs.Standing.{standing_empty}
use Rattle.tablet_view.proofs.view.View.open.Goals as goal

pub returns : goal.returns
returns c = search rules

pub invariant_of-result : goal.invariant_of-result
invariant_of-result c = subst IsStanding (sym (returns c)) (standing_empty (arc_value c.args.config) (subst IsConfig c.deref.ensures c.count.ensures.rules))
