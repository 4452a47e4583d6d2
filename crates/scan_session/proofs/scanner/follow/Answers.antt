use Rattle.scan_session.proofs.SessionWalks.{staying}
use Rattle.scan_session.proofs.scanner.follow.Goals as goal

pub returns-then-not-begins_with-clause-walked : goal.returns-then-not-begins_with-clause-walked
returns-then-not-begins_with-clause-walked c = staying c.args.session.now
