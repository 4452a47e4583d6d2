use Rattle.scan_session.proofs.Untimed.{answers_differ, untimed_rise, untimed_counted}
use Rattle.scan_session.proofs.session_laws.untimed_answers_differ.Goals as goal

pub returns-clause-differ : goal.returns-clause-differ
returns-clause-differ c = answers_differ

pub returns-clause-rise : goal.returns-clause-rise
returns-clause-rise c = untimed_rise

pub returns-clause-counted : goal.returns-clause-counted
returns-clause-counted c = untimed_counted
