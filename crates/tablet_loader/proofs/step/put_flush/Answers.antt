use Rattle.std.proofs.Common.{sym, ◌∙◌}
use Rattle.tablet_loader.proofs.Waiting.{fitting_flush}
use Rattle.tablet_loader.proofs.step.put_flush.Goals as goal

pub install_flush-requires-clause-made : goal.install_flush-requires-clause-made
install_flush-requires-clause-made c = fitting_flush c.args.core.now.view c.args.core.now.view.frozen c.in-Some.done (sym c.in-Some.is ∙ c.requires)
