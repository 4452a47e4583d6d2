use Rattle.tablet_replay.proofs.Headlines.{openings_cover, renewals_cover, fetches_say, sessions_walk}
use Rattle.tablet_replay.proofs.headline.sessions_walk.Goals as goal

pub returns-clause-opening : goal.returns-clause-opening
returns-clause-opening c = openings_cover

pub returns-clause-renewal : goal.returns-clause-renewal
returns-clause-renewal c = renewals_cover

pub returns-clause-said : goal.returns-clause-said
returns-clause-said c = fetches_say

pub returns-clause-walk : goal.returns-clause-walk
returns-clause-walk c = sessions_walk
