use Rattle.tablet_core.proofs.Staying.{frozen_stays_so, jobs_stay}
use Rattle.tablet_core.proofs.core_laws.jobs_may_end_later.Goals as goal

pub returns-clause-jobs : goal.returns-clause-jobs
returns-clause-jobs c = jobs_stay

pub returns-clause-frozen : goal.returns-clause-frozen
returns-clause-frozen c = frozen_stays_so
