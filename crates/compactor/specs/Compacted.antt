-- What a compaction is to make of what. All of this is this project's own.
use Rattle.std.specs.Prelude.{List}
use Rattle.tablet_model.specs.Cell.{Cell}
use Rattle.iter_config.specs.Settings.{Settings}
use Rattle.iter_stack.specs.Usages.{usage_cells}
use Rattle.iter_stack.specs.declared.usage.Usage.{Usage}

-- a compaction: by which configuration, of which kind, and over which entries, in order
pub record Compaction : Type 0 where
  pub config : Settings
  pub usage : Usage
  pub input : List Cell

-- the entries that it makes
abbrev pub entries_made : Compaction → List Cell
entries_made c = usage_cells c.config c.usage c.input
