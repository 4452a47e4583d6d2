use Rattle.std.proofs.Common.{length}
use Rattle.tablet_view.proofs.log.+mutation_at.Given as goal

abbrev pub decreases-mutation_at : goal.decreases-mutation_at
decreases-mutation_at l = length l.runs.now
