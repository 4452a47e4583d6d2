-- The configuration under which generated mutations are loaded: a sum of the family `n`, and two versions of each column. All of this is
-- this project's own; the iterators are Accumulo's.
use Rattle.std.specs.Prelude.{true, [], ◌∷◌, None, codes}
use Rattle.number_values.specs.declared.op.Encoding.TheVariants as encoding
use Rattle.number_values.specs.declared.op.Op.TheVariants as op
use Rattle.iter_config.specs.Settings.{Settings}
use Rattle.iter_config.specs.declared.iter_spec.Deletes.TheVariants as deletes
use Rattle.iter_config.specs.declared.iter_spec.IterSpec.{IterSpec}
use Rattle.iter_config.specs.declared.iter_spec.Kind.TheVariants.{Combine, Versions}
use Rattle.iter_config.specs.declared.iter_spec.Scopes.{Scopes}

-- in scans and in all compactions
abbrev pub everywhere : Scopes
everywhere = record { scan = true; minc = true; majc = true }

-- the sum of the numbers in each column of family `n`, whose columns take no deletes
abbrev pub sum_of_numbers : IterSpec
sum_of_numbers = record {
  name = codes "sum";
  priority = 10;
  kind = Combine op.Sum (record { family = codes "n"; qualifier = None } ∷ []) encoding.String deletes.None;
  scopes = everywhere;
}

-- the two newest versions of each column
abbrev pub two_versions : IterSpec
two_versions = record { name = codes "vers"; priority = 20; kind = Versions 2; scopes = everywhere }

unfoldable pub generator_settings : Settings
generator_settings = record { iterators = sum_of_numbers ∷ two_versions ∷ []; timed = [] }
