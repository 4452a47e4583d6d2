use Rattle.std.proofs.Common.{subst}
use Rattle.tablet_loader.specs.Waiting.{IsMadeBy}
use Rattle.tablet_loader.proofs.Waiting.{fitting_major}
use Rattle.tablet_loader.proofs.step.put_major.Goals as goal

pub install_finish-requires-clause-made : goal.install_finish-requires-clause-made
install_finish-requires-clause-made c = fitting_major c.args.core.now c.args.job c.in-Some.done (subst (IsMadeBy c.args.core.now c.args.job) c.in-Some.is c.requires)
