use Rattle.scan_session.proofs.Rising.{different_rise, different_counted}
use Rattle.scan_session.proofs.walk_laws.different_keys_rise.Goals as goal

pub returns-clause-rise : goal.returns-clause-rise
returns-clause-rise c = different_rise

pub returns-clause-counted : goal.returns-clause-counted
returns-clause-counted c = different_counted
