use Rattle.tablet_core.proofs.Turning.{cores_follow}
use Rattle.tablet_core.proofs.core_laws.cores_follow_stores.Goals as goal

pub returns : goal.returns
returns c = cores_follow
