use Rattle.std.proofs.Common.{sym, ◌∙◌}
use Rattle.tablet_core.proofs.Flushes.{job_flushes}
use Rattle.store_tests.proofs.cores.flush.Goals as goal

pub install_flush-requires-clause-made : goal.install_flush-requires-clause-made
install_flush-requires-clause-made c = job_flushes c.args.core.now.view c.in-Ok-Some.done c.args.core.now.view.frozen (sym c.in-Ok-Some.field-0-is ∙ c.in-Ok-Some.ensures)
