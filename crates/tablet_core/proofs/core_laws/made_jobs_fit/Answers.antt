use Rattle.tablet_core.proofs.Finishes.{major_makes}
use Rattle.tablet_core.proofs.Flushes.{flush_makes}
use Rattle.tablet_core.proofs.core_laws.made_jobs_fit.Goals as goal

pub returns-clause-flush : goal.returns-clause-flush
returns-clause-flush c = flush_makes

pub returns-clause-major : goal.returns-clause-major
returns-clause-major c = major_makes
