use Rattle.std.specs.Arc.{arc_value}
use Rattle.scan_session.proofs.Turns.{renews_to}
use Rattle.scan_session.proofs.scanner.renew_to.Goals as goal

pub returns-clause-walked : goal.returns-clause-walked
returns-clause-walked c = renews_to c.renew.new.self c.args.session.now (arc_value c.args.view) c.renew.ensures c.requires.config c.requires.log
