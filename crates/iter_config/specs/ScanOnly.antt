-- The iterators of scans alone that tables describe. The fields are this project's own; the iterators are Accumulo's `WholeRowIterator` and
-- `IntersectingIterator`.
use Rattle.std.specs.Prelude.{ℕ, ◌+◌, Bool, ◌&&◌, nat_le, if◌then◌else◌, List, ◌∷◌, length, Option, Some, None, codes}
use Rattle.toml.specs.Data.{Members, get_member}
use Rattle.iter_config.specs.Faults.{◌>>=◌}
use Rattle.iter_config.specs.Fields.{keys_within, shared_keys}
use Rattle.iter_config.specs.Names.{listed_in, listed_or_none}
use Rattle.iter_config.specs.declared.iter_spec.Kind.{Kind}
use Rattle.iter_config.specs.declared.iter_spec.Kind.TheVariants.{WholeRow, Intersecting}

-- whole rows, which have no other field
unfoldable pub whole_row_of : Members → Option Kind
whole_row_of ms = if keys_within shared_keys ms then Some WholeRow else None

-- 1 term at least, and 16 at most with those that documents are to be without
abbrev pub are_terms : List (List ℕ) → List (List ℕ) → Bool
are_terms terms without = nat_le 1 (length terms) && nat_le (length terms + length without) 16

-- the terms that documents have, and those under `not` that they are to be without
unfoldable pub intersecting_of : Members → Option Kind
intersecting_of ms = do
  terms ← get_member (codes "terms") ms >>= listed_in
  without ← listed_or_none (get_member (codes "not") ms)
  if are_terms terms without then (if keys_within (codes "terms" ∷ codes "not" ∷ shared_keys) ms then Some (Intersecting terms without) else None) else None
