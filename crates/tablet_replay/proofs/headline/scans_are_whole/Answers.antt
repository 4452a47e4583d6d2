use Rattle.tablet_replay.proofs.Headlines.{answers_in_order, scans_are_whole}
use Rattle.tablet_replay.proofs.headline.scans_are_whole.Goals as goal

pub returns-clause-order : goal.returns-clause-order
returns-clause-order c = answers_in_order

pub returns-clause-whole : goal.returns-clause-whole
returns-clause-whole c = scans_are_whole
