use Rattle.scan_session.proofs.SessionWalks.{answers_ascend}
use Rattle.scan_session.proofs.session_laws.sessions_answer_in_order.Goals as goal

pub returns : goal.returns
returns c = answers_ascend
