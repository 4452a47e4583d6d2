-- Which iterators of a configuration run where, and what they make of a leaf's entries.
use Rattle.std.specs.Prelude.{Bool, true, false, not, ◌&&◌, List}
use Rattle.std.specs.List.{list_any}
use Rattle.tablet_model.specs.Cell.{Cell}
use Rattle.tablet_model.specs.Markers.{live}
use Rattle.tablet_model.specs.Stages.{stages}
use Rattle.tablet_model.specs.Compactions.{minor_compaction, partial_compaction, full_compaction}
use Rattle.number_values.specs.declared.op.Op.{Op}
use Rattle.number_values.specs.declared.op.Op.TheVariants as op
use Rattle.iter_config.specs.Rules.{in_base, is_full_combiner}
use Rattle.iter_config.specs.RulesOf.{rules_of}
use Rattle.iter_config.specs.Settings.{Settings}
use Rattle.iter_config.specs.Stages.{stages_of}
use Rattle.iter_config.specs.declared.iter_spec.IterSpec.{IterSpec}
use Rattle.iter_config.specs.declared.iter_spec.Kind.{Kind}
use Rattle.iter_config.specs.declared.iter_spec.Kind.TheVariants.{Filter, Versions, Combine, WholeRow, Intersecting}
use Rattle.iter_stack.specs.declared.usage.Usage.{Usage}
use Rattle.iter_stack.specs.declared.usage.Usage.TheVariants.{Scan, Minc, MajcPart, MajcFull, Pack}

-- what a scan sees of a list, what a compaction makes of it (Accumulo), or what the image of a whole history has (this project's own)
unfoldable pub usage_cells : Settings → Usage → List Cell → List Cell
usage_cells c Scan list = stages (stages_of c) (live list)
usage_cells c Minc list = minor_compaction (rules_of c).minor list
usage_cells c MajcPart list = partial_compaction (rules_of c).major list
usage_cells c MajcFull list = full_compaction (rules_of c).major list
usage_cells c Pack list = stages (rules_of c).base (live list)

-- whether an iterator runs (Accumulo's scopes); that compactions of some files leave out the combiners of columns with deletes is this
-- project's rule
abbrev pub runs_in : Usage → IterSpec → Bool
runs_in Scan s = true
runs_in Minc s = s.scopes.minc
runs_in MajcPart s = s.scopes.majc && not (is_full_combiner s.kind)
runs_in MajcFull s = s.scopes.majc
runs_in Pack s = in_base s

-- whether an operation is for arrays
abbrev pub is_of_arrays : Op → Bool
is_of_arrays op.Sum = false
is_of_arrays op.Min = false
is_of_arrays op.Max = false
is_of_arrays op.ArraySum = true

-- whether an iterator takes memory when it runs: it adds arrays, or shows rows or documents
abbrev pub takes_memory : Kind → Bool
takes_memory (Filter predicate negate) = false
takes_memory (Versions max) = false
takes_memory (Combine op columns encoding deletes) = is_of_arrays op
takes_memory WholeRow = true
takes_memory (Intersecting terms without) = true

-- whether a stack is steady (this project's own): where its leaf is, and no iterator that runs takes memory
unfoldable pub usage_steady : Settings → Usage → Bool → Bool
usage_steady c usage leaf = leaf && not (list_any (λ s. runs_in usage s && takes_memory s.kind) c.iterators)
