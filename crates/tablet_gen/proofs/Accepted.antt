-- What the configuration's document is read as.
use Rattle.std.proofs.Common.{◌≡◌, Ok, refl}
use Rattle.iter_config.specs.Document.{config_of}
use Rattle.iter_config.proofs.OnLiterals.{config_on_literals}
use Rattle.tablet_gen.specs.Configuration.{generator_settings}
use Rattle.tablet_gen.specs.declared.configuration.TheConstants.{DOCUMENT}

pub accepted : config_of DOCUMENT.now ≡ Ok generator_settings
unfolding config_on_literals generator_settings
accepted = refl
