use Rattle.tablet_replay.proofs.Headlines.{steps_change_none}
use Rattle.tablet_replay.proofs.headline.steps_change_no_answer.Goals as goal

pub returns : goal.returns
returns c = steps_change_none
