use Rattle.scan_session.proofs.Takings.{enough_taken, no_more_taken}
use Rattle.scan_session.proofs.walk_laws.what_is_taken.Goals as goal

pub returns-clause-enough : goal.returns-clause-enough
returns-clause-enough c = enough_taken

pub returns-clause-no_more : goal.returns-clause-no_more
returns-clause-no_more c = no_more_taken
