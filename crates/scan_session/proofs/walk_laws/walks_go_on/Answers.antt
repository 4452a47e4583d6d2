use Rattle.scan_session.proofs.Walking.{walks_join, walks_on, walks_lower, walks_bounded}
use Rattle.scan_session.proofs.walk_laws.walks_go_on.Goals as goal

pub returns-clause-join : goal.returns-clause-join
returns-clause-join c = walks_join

pub returns-clause-further : goal.returns-clause-further
returns-clause-further c = walks_on

pub returns-clause-lower : goal.returns-clause-lower
returns-clause-lower c = walks_lower

pub returns-clause-bounded : goal.returns-clause-bounded
returns-clause-bounded c = walks_bounded
