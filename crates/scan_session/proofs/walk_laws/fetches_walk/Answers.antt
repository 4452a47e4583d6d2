use Rattle.scan_session.proofs.Walking.{fetches_are_walks, rest_left}
use Rattle.scan_session.proofs.walk_laws.fetches_walk.Goals as goal

pub returns-clause-walk : goal.returns-clause-walk
returns-clause-walk c = fetches_are_walks

pub returns-clause-rest : goal.returns-clause-rest
returns-clause-rest c = rest_left
