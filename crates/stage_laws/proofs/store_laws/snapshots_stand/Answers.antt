use Rattle.tablet_model.specs.Steps.{step}
use Rattle.stage_laws.proofs.Standing.{stands_applied, stands_frozen, stands_flushed}
use Rattle.stage_laws.proofs.StandingJobs.{stands_replaced}
use Rattle.stage_laws.proofs.store_laws.snapshots_stand.Goals as goal

pub returns-clause-mutations : goal.returns-clause-mutations
unfolding step
returns-clause-mutations c = stands_applied

pub returns-clause-freezes : goal.returns-clause-freezes
unfolding step
returns-clause-freezes c = stands_frozen

pub returns-clause-flushes : goal.returns-clause-flushes
unfolding step
returns-clause-flushes c = stands_flushed

pub returns-clause-compactions : goal.returns-clause-compactions
returns-clause-compactions c = stands_replaced
