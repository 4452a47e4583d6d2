use Rattle.scan_session.proofs.SessionWalks.{staying, renewing, going_on, over_histories, whole_sessions}
use Rattle.scan_session.proofs.session_laws.sessions_walk.Goals as goal

pub returns-clause-stay : goal.returns-clause-stay
returns-clause-stay c = staying

pub returns-clause-renew : goal.returns-clause-renew
returns-clause-renew c = renewing

pub returns-clause-join : goal.returns-clause-join
returns-clause-join c = going_on

pub returns-clause-history : goal.returns-clause-history
returns-clause-history c = over_histories

pub returns-clause-whole : goal.returns-clause-whole
returns-clause-whole c = whole_sessions
