-- Several sources in the order of their tops. All of this is this project's own.
use Rattle.std.specs.Prelude.{◌≡◌, Bool, true, false, List, [], ◌∷◌, Option, Some, None, map}
use Rattle.std.specs.List.{AllByRecursion, list_all}
use Rattle.tablet_model.specs.Cell.{Cell}
use Rattle.tablet_model.specs.Order.{above}
use Rattle.tablet_model.specs.Sorted.{Ascends, first, put}
use Rattle.tablet_model.specs.Cuts.{Span, within}

-- whether a first entry sorts before another, where each comes before none
abbrev pub comes_before : Option Cell → Option Cell → Bool
comes_before None other = false
comes_before (Some e) None = true
comes_before (Some e) (Some other) = above other e

-- whether a list begins behind where another does: with a later entry, or with none
abbrev pub begins_behind : List Cell → List Cell → Bool
begins_behind list other = comes_before (first other) (first list)

-- each list is in order, and they follow one another by their first entries, empty ones last
pub record AreOrdered (lists : List (List Cell)) : Type 0 where
  pub each : AllByRecursion (Ascends above) lists
  pub by_first : Ascends begins_behind lists

module _ {S : Type 0} where
  -- whether all of these sources are steady
  abbrev pub all_steady : (S → Bool) → List S → Bool
  all_steady steady sources = list_all (λ b. b) (map steady sources)

  -- whether the top of a source sorts behind that of another
  abbrev pub has_later_top : (S → List Cell) → S → S → Bool
  has_later_top rest source other = begins_behind (rest source) (rest other)

  -- the first source put behind those whose tops come before its own
  abbrev pub settled : (S → List Cell) → List S → List S
  settled rest [] = []
  settled rest (s ∷ ss) = put (has_later_top rest) s ss

  -- a source that was sought has left what it has in the range
  abbrev pub IsSought : (S → List Cell) → (S → List Cell) → Span → S → Type 0
  IsSought rest cells s source = rest source ≡ within s (cells source)
