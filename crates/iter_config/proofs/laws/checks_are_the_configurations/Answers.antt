use Rattle.iter_config.proofs.Checking.{mistimed, refused_delete, unread}
use Rattle.iter_config.proofs.laws.checks_are_the_configurations.Goals as goal

pub returns-clause-deletes : goal.returns-clause-deletes
returns-clause-deletes c = refused_delete

pub returns-clause-times : goal.returns-clause-times
returns-clause-times c = mistimed

pub returns-clause-values : goal.returns-clause-values
returns-clause-values c = unread
