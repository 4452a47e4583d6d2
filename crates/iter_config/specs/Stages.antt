-- Configured iterators as stages of the model. All of this is this project's own.
use Rattle.std.specs.Prelude.{List, map}
use Rattle.cell_key.specs.Listed.{column_listed}
use Rattle.number_values.specs.Values.{reduction_of}
use Rattle.tablet_model.specs.Stages.{Stage, newest, combine, rows, intersect}
use Rattle.iter_config.specs.Predicates.{filter_stage}
use Rattle.iter_config.specs.Rules.{is_of_deletes}
use Rattle.iter_config.specs.Settings.{Settings}
use Rattle.iter_config.specs.declared.iter_spec.Kind.{Kind}
use Rattle.iter_config.specs.declared.iter_spec.Kind.TheVariants.{Filter, Versions, Combine, WholeRow, Intersecting}
use Rattle.iter_config.specs.declared.iter_spec.IterSpec.{IterSpec}

-- the stage that a kind of iterator is
abbrev pub stage_of : Kind → Stage
stage_of (Filter predicate negate) = filter_stage predicate negate
stage_of (Versions max) = newest max
stage_of (Combine op columns encoding deletes) = combine (column_listed columns) (reduction_of op encoding) (is_of_deletes deletes)
stage_of WholeRow = rows
stage_of (Intersecting terms without) = intersect terms without

-- the stages of some iterators
abbrev pub stage_list : List IterSpec → List Stage
stage_list specs = map (λ s. stage_of s.kind) specs

-- the stages of a configuration, the lowest priority first
abbrev pub stages_of : Settings → List Stage
stages_of c = stage_list c.iterators
