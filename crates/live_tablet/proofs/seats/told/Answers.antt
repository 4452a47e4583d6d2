use Rattle.live_tablet.proofs.Rules.{admits, forks, merges, view_at}
use Rattle.live_tablet.proofs.seats.told.Goals as goal

pub reader-requires : goal.reader-requires
reader-requires c = admits view_at

pub tell-requires : goal.tell-requires
tell-requires c = forks view_at _ _

pub learn-requires-clause-rule : goal.learn-requires-clause-rule
learn-requires-clause-rule c = merges view_at _ _ _ _
