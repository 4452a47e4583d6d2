-- What a loader has in the words of loads. All of this is this project's own.
use Rattle.tablet_core.specs.State.{state_of}
use Rattle.tablet_model.specs.Rules.{Rules}
use Rattle.iter_config.specs.RulesOf.{rules_of}
use Rattle.tablet_loader.specs.Loads.{Load}
use Rattle.tablet_loader.specs.declared.loader.Loader.{Loader}

-- its store, and the number of its last job
abbrev pub load_of : Loader → Load
load_of l = record { store = state_of l.core; job = l.job }

-- the rules of its configuration
abbrev pub rules_in : Loader → Rules
rules_in l = rules_of l.core.view.config
