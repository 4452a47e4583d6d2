use Rattle.stage_laws.proofs.StandingSteps.{empty_stands, steps_stand}
use Rattle.stage_laws.proofs.store_laws.stores_stand.Goals as goal

pub returns-clause-empty : goal.returns-clause-empty
returns-clause-empty c = empty_stands

pub returns-clause-steps : goal.returns-clause-steps
returns-clause-steps c = steps_stand
