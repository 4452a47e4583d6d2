-- Filters that look at what stands before an entry: this project's form of versions, combiners and marked entries.
use Rattle.std.specs.Prelude.{Bool, cond, List, [], ◌∷◌}
use Rattle.tablet_model.specs.Cell.{Cell}

-- the entries that pass a test beside those that stand before them, which it is given the nearest first
unfoldable pub filter_beside : (List Cell → Cell → Bool) → List Cell → List Cell → List Cell
filter_beside keeps before [] = []
filter_beside keeps before (e ∷ es) = cond (keeps before e) (e ∷ filter_beside keeps (e ∷ before) es) (filter_beside keeps (e ∷ before) es)
