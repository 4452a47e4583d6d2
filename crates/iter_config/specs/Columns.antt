-- What a configuration asks of what comes into a column. All of this is this project's own.
use Rattle.std.specs.Prelude.{ℕ, Bool, true, false, not, ◌&&◌, ◌||◌, List, Some}
use Rattle.std.specs.List.{list_all, list_any}
use Rattle.tablet_model.specs.Families.{has_family}
use Rattle.cell_key.specs.Listed.{is_listed}
use Rattle.number_values.specs.Values.{reduction_of}
use Rattle.iter_config.specs.Rules.{is_of_deletes}
use Rattle.iter_config.specs.Settings.{Settings}
use Rattle.iter_config.specs.declared.iter_spec.Kind.{Kind}
use Rattle.iter_config.specs.declared.iter_spec.Kind.TheVariants.{Filter, Versions, Combine, WholeRow, Intersecting}
use Rattle.iter_config.specs.declared.iter_spec.IterSpec.{IterSpec}

-- a combiner without deletes combines the columns of this family and qualifier
abbrev pub kind_refuses : List ℕ → List ℕ → Kind → Bool
kind_refuses family qualifier (Filter predicate negate) = false
kind_refuses family qualifier (Versions max) = false
kind_refuses family qualifier (Combine op columns encoding deletes) = not (is_of_deletes deletes) && is_listed columns family qualifier
kind_refuses family qualifier WholeRow = false
kind_refuses family qualifier (Intersecting terms without) = false

-- whether one of some iterators is a combiner that takes no delete of these columns
unfoldable pub one_refuses : List IterSpec → List ℕ → List ℕ → Bool
one_refuses specs family qualifier = list_any (λ s. kind_refuses family qualifier s.kind) specs

-- whether the puts of a family bring times of their own
abbrev pub is_timed : Settings → List ℕ → Bool
is_timed c family = has_family (Some c.timed) family

-- whether a configuration takes no delete of these columns: their family has times of its own, or a combiner refuses it
abbrev pub refuses_delete : Settings → List ℕ → List ℕ → Bool
refuses_delete c family qualifier = is_timed c family || one_refuses c.iterators family qualifier

-- a value that a combiner of these columns reads, or any value
abbrev pub kind_reads : List ℕ → List ℕ → List ℕ → Kind → Bool
kind_reads family qualifier value (Filter predicate negate) = true
kind_reads family qualifier value (Versions max) = true
kind_reads family qualifier value (Combine op columns encoding deletes) = not (is_listed columns family qualifier) || (reduction_of op encoding).reads value
kind_reads family qualifier value WholeRow = true
kind_reads family qualifier value (Intersecting terms without) = true

-- whether each combiner of these columns among some iterators reads a value
unfoldable pub all_read : List IterSpec → List ℕ → List ℕ → List ℕ → Bool
all_read specs family qualifier value = list_all (λ s. kind_reads family qualifier value s.kind) specs

-- whether a configuration takes a value in these columns: each of their combiners reads it
abbrev pub reads_value : Settings → List ℕ → List ℕ → List ℕ → Bool
reads_value c family qualifier value = all_read c.iterators family qualifier value
