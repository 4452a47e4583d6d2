use Rattle.iter_config.proofs.Soundness.{sound}
use Rattle.iter_config.proofs.laws.configurations_are_sound.Goals as goal

pub returns : goal.returns
returns c = sound
