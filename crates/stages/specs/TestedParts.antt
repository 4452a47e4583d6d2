-- What a `Tested` keeps, by its test. All of this is this project's own.
use Rattle.std.specs.Prelude.{◌≡◌, Bool, List, filter}
use Rattle.tablet_model.specs.Cell.{Cell}
use Rattle.tablet_model.specs.Cuts.{Span, is_behind, within}
use Rattle.tablet_model.specs.Sorted.{from_first}
use Rattle.stages.specs.Passes.{kept_from}
use Rattle.stages.specs.TestLaws.{test_pass, test_narrows}
use Rattle.stages.specs.declared.tested.Tested.{Tested}

module _ {P : Type 0} where
  abbrev pub tested_made : (P → Cell → Bool) → Tested P → List Cell → List Cell
  tested_made passes s = filter (passes s.test)

  abbrev pub tested_keeps : (P → Cell → Bool) → Tested P → Cell → Bool
  tested_keeps passes s e = passes s.test e

  -- it is the same behind each entry
  abbrev pub untouched : Tested P → Cell → Tested P
  untouched s e = s

  pub tested_pass : (passes : P → Cell → Bool) (s : Tested P) (list : List Cell) → kept_from (tested_keeps passes) untouched s list ≡ tested_made passes s list
  tested_pass passes s list = test_pass (tested_keeps passes) s list

  pub tested_narrows : (passes : P → Cell → Bool) (s : Tested P) (span : Span) (list : List Cell)
      → from_first (λ e. is_behind span.start e.key) (tested_made passes s (within span list)) ≡ within span (tested_made passes s list)
  tested_narrows passes s span list = test_narrows (passes s.test) span list
