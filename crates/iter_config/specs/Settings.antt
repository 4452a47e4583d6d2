-- What a configuration is. All of this is this project's own.
use Rattle.std.specs.Prelude.{ℕ, List}
use Rattle.iter_config.specs.declared.iter_spec.IterSpec.{IterSpec}

-- a configuration: its iterators in priority order, and the families whose puts bring times of their own
pub record Settings : Type 0 where
  pub iterators : List IterSpec
  pub timed : List (List ℕ)
