-- What filters test, and the filters that they are. The tests of families, qualifiers, bytes and times are those of Accumulo's filters of
-- these names; that of visibilities is this project's own.
use Rattle.std.specs.Prelude.{ℕ, Bool, true, false, not, ◌&&◌, ◌||◌, cond, List, [], ◌∷◌, Option, Some, None, length, take}
use Rattle.std.specs.Str.{bytes_eq}
use Rattle.std.specs.Ordering.{int_cmp, is_le, is_lt}
use Rattle.tablet_model.specs.Cell.{Cell}
use Rattle.tablet_model.specs.Families.{has_family}
use Rattle.tablet_model.specs.Order.{bytes_cmp}
use Rattle.tablet_model.specs.Stages.{Stage, by_column, by_cell}
use Rattle.iter_config.specs.declared.predicate.Predicate.{Predicate}
use Rattle.iter_config.specs.declared.predicate.Predicate.TheVariants.{Family, QualifierSlice, VisibilitySet, Grep, Times}

-- whether bytes are at or behind a start
abbrev pub is_from : Option (List ℕ) → List ℕ → Bool
is_from None bytes = true
is_from (Some from) bytes = is_le (bytes_cmp from bytes)

-- whether bytes are before an end
abbrev pub is_up_to : Option (List ℕ) → List ℕ → Bool
is_up_to None bytes = true
is_up_to (Some to) bytes = is_lt (bytes_cmp bytes to)

-- whether some bytes begin with a needle
abbrev pub begins_with : List ℕ → List ℕ → Bool
begins_with needle bytes = bytes_eq (take (length needle) bytes) needle

-- whether a needle stands somewhere in some bytes
unfoldable pub has_within : List ℕ → List ℕ → Bool
has_within needle [] = begins_with needle []
has_within needle (b ∷ bs) = begins_with needle (b ∷ bs) || has_within needle bs

-- whether a needle stands in a part of an entry
unfoldable pub has_needle : List ℕ → Cell → Bool
has_needle needle e =
    has_within needle e.key.row || has_within needle e.key.family || has_within needle e.key.qualifier || has_within needle e.key.visibility || has_within needle e.value

-- whether a test holds of an entry
abbrev pub matches : Predicate → Cell → Bool
matches (Family families) e = has_family (Some families) e.key.family
matches (QualifierSlice from to) e = is_from from e.key.qualifier && is_up_to to e.key.qualifier
matches (VisibilitySet visibilities) e = has_family (Some visibilities) e.key.visibility
matches (Grep needle) e = has_needle needle e
matches (Times from to) e = is_le (int_cmp from e.key.time) && is_le (int_cmp e.key.time to)

-- whether a filter keeps an entry that is no marker: where its test holds, or with `negate` where it doesn't
unfoldable pub keeps : Predicate → Bool → Cell → Bool
keeps predicate negate e = cond negate (not (matches predicate e)) (matches predicate e)

-- whether a test looks at the column alone
abbrev pub is_of_column : Predicate → Bool
is_of_column (Family families) = true
is_of_column (QualifierSlice from to) = true
is_of_column (VisibilitySet visibilities) = true
is_of_column (Grep needle) = false
is_of_column (Times from to) = false

-- the stage of a filter
unfoldable pub filter_stage : Predicate → Bool → Stage
filter_stage predicate negate = cond (is_of_column predicate) (by_column (keeps predicate negate)) (by_cell (keeps predicate negate))
