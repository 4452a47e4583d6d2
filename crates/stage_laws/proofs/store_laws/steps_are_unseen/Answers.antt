use Rattle.stage_laws.proofs.StandingSteps.{stores_answer, steps_are_unseen}
use Rattle.stage_laws.proofs.store_laws.steps_are_unseen.Goals as goal

pub returns-clause-answer : goal.returns-clause-answer
returns-clause-answer c = stores_answer

pub returns-clause-unseen : goal.returns-clause-unseen
returns-clause-unseen c = steps_are_unseen
