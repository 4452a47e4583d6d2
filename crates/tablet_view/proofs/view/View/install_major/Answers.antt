use Rattle.std.proofs.Common.{rules, subst, sym}
use Rattle.compactor.specs.Compacted.{entries_made}
use Rattle.tablet_view.specs.Snapshot.{IsStanding}
use Rattle.tablet_view.proofs.Standing.{standing_replaced}
use Rattle.tablet_view.proofs.view.View.install_major.Goals as goal

pub returns : goal.returns
returns c = search rules

pub invariant_of-result : goal.invariant_of-result
invariant_of-result c = subst IsStanding (sym (returns c)) (standing_replaced c.args.self.now c.args.ids.now c.args.id (entries_made c.args.done.now) c.requires.above c.requires.made (subst IsStanding c.self.view_is c.self.invariant))
