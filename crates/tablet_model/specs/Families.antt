-- Which families a scan takes. Accumulo fetches chosen column families; that they restrict the data beneath all iterators is this project's rule.
use Rattle.std.specs.Prelude.{ℕ, Bool, true, List, Option, Some, None, nat_eq, filter}
use Rattle.std.specs.List.{list_any}
use Rattle.std.specs.Cmp.Lexicographic.{pointwise}
use Rattle.tablet_model.specs.Cell.{Cell}

-- whether a family is taken: no names are all families
abbrev pub has_family : Option (List (List ℕ)) → List ℕ → Bool
has_family None family = true
has_family (Some names) family = list_any (λ name. pointwise nat_eq name family) names

-- whether an entry's family is taken
abbrev pub is_in : Option (List (List ℕ)) → Cell → Bool
is_in families e = has_family families e.key.family

-- the entries of the families that are taken
abbrev pub in_families : Option (List (List ℕ)) → List Cell → List Cell
in_families families list = filter (is_in families) list
