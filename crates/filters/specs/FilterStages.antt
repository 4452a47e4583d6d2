-- What a filter keeps. All of this is this project's own.
use Rattle.std.specs.Prelude.{◌≡◌, ◌||◌, Bool, List}
use Rattle.std.specs.Arc.{arc_value}
use Rattle.tablet_model.specs.Cell.{Cell}
use Rattle.tablet_model.specs.Cuts.{Span, is_behind, within}
use Rattle.tablet_model.specs.Filters.{filter_puts}
use Rattle.tablet_model.specs.Sorted.{from_first}
use Rattle.iter_config.specs.Predicates.{keeps}
use Rattle.stages.specs.Passes.{kept_from}
use Rattle.stages.specs.TestLaws.{test_pass, test_narrows}
use Rattle.filters.specs.declared.filter_stage.FilterStage.{FilterStage}

-- which entries that are no markers it keeps
abbrev pub test_of : FilterStage → Cell → Bool
test_of s = keeps (arc_value s.predicate) s.negate

-- what it makes of a list
abbrev pub filter_made : FilterStage → List Cell → List Cell
filter_made s = filter_puts (test_of s)

-- whether it keeps an entry
abbrev pub passes : FilterStage → Cell → Bool
passes s e = e.key.deleted || test_of s e

-- it is the same behind each entry
abbrev pub same : FilterStage → Cell → FilterStage
same s e = s

-- its pass keeps what the filter makes of a list
pub filter_pass : (s : FilterStage) (list : List Cell) → kept_from passes same s list ≡ filter_made s list
unfolding filter_puts
filter_pass s list = test_pass passes s list

-- it makes of a range what the range has of what it makes of all
pub filter_narrows : (s : FilterStage) (span : Span) (list : List Cell)
    → from_first (λ e. is_behind span.start e.key) (filter_made s (within span list)) ≡ within span (filter_made s list)
unfolding filter_puts
filter_narrows s span list = test_narrows (passes s) span list
