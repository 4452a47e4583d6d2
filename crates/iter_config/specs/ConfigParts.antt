-- What a configuration is made of. All of this is this project's own.
use Rattle.iter_config.specs.Settings.{Settings}
use Rattle.iter_config.specs.declared.config.Config.TheInside.{Inside}

-- what contracts see of a configuration
abbrev pub settings_of : Inside → Settings
settings_of c = record { iterators = c.iterators.items; timed = c.timed }
