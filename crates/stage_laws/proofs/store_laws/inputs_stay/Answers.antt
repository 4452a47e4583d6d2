use Rattle.stage_laws.proofs.JobsStay.{inputs_stay, frozen_stays}
use Rattle.stage_laws.proofs.store_laws.inputs_stay.Goals as goal

pub returns-clause-files : goal.returns-clause-files
returns-clause-files c = inputs_stay

pub returns-clause-frozen : goal.returns-clause-frozen
returns-clause-frozen c = frozen_stays
