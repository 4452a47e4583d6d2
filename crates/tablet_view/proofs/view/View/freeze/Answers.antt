use Rattle.std.proofs.Common.{rules, subst, sym}
use Rattle.tablet_view.specs.Snapshot.{IsStanding}
use Rattle.tablet_view.proofs.Standing.{standing_frozen}
use Rattle.tablet_view.proofs.view.View.freeze.Goals as goal

pub returns : goal.returns
returns c = search rules

pub invariant_of-result : goal.invariant_of-result
invariant_of-result c = subst IsStanding (sym (returns c)) (standing_frozen c.args.self.now c.requires.free (subst IsStanding c.self.view_is c.self.invariant))
