use Rattle.std.proofs.Common.{sym, ◌∙◌}
use Rattle.tablet_core.proofs.Finishes.{job_makes}
use Rattle.store_tests.proofs.cores.finish.Goals as goal

pub install_finish-requires-clause-made : goal.install_finish-requires-clause-made
install_finish-requires-clause-made c = job_makes c.args.core.now c.args.job c.in-Ok-Some.done (sym c.in-Ok-Some.field-0-is ∙ c.in-Ok-Some.ensures)
