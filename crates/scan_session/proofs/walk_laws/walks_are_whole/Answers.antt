use Rattle.scan_session.proofs.Walking.{nothing_skipped, begin_answer, whole_walks}
use Rattle.scan_session.proofs.walk_laws.walks_are_whole.Goals as goal

pub returns-clause-skips : goal.returns-clause-skips
returns-clause-skips c = nothing_skipped

pub returns-clause-begin : goal.returns-clause-begin
returns-clause-begin c = begin_answer

pub returns-clause-whole : goal.returns-clause-whole
returns-clause-whole c = whole_walks
