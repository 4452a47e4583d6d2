use Rattle.std.proofs.Common.{sym, ◌∙◌}
use Rattle.tablet_model.specs.Steps.{find_job}
use Rattle.tablet_core.specs.Jobs.{major_of}
use Rattle.tablet_core.proofs.Finishes.{finish_nothing, finish_unmade, job_makes, none_found}
use Rattle.tablet_core.proofs.core_state.Core.finish.Goals as goal

pub install_finish-requires-clause-made : goal.install_finish-requires-clause-made
install_finish-requires-clause-made c = job_makes c.args.self.now c.args.job c.in-Ok-Some.done (sym c.in-Ok-Some.field-0-is ∙ c.in-Ok-Some.ensures.job)

pub returns-in-Ok-None : goal.returns-in-Ok-None
returns-in-Ok-None c = finish_nothing c.args.self.now c.args.job (none_found (major_of c.args.self.now.view) (find_job c.args.job c.args.self.now.jobs) (sym c.in-Ok-None.field-0-is ∙ c.in-Ok-None.ensures.job))

pub returns-in-Err : goal.returns-in-Err
returns-in-Err c = finish_unmade c.args.self.now c.args.job c.in-Err.ensures.needed
