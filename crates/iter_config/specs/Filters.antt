-- The filters that tables describe. The fields are this project's own.
use Rattle.std.specs.Prelude.{ℕ, pos, negsuc, nat_le, if◌then◌else◌, List, ◌∷◌, length, Option, Some, None, codes}
use Rattle.std.specs.Str.{bytes_eq}
use Rattle.toml.specs.Data.{Members, get_member}
use Rattle.iter_config.specs.Faults.{◌>>=◌}
use Rattle.iter_config.specs.Fields.{flag_in, integer_or, keys_within, shared_keys}
use Rattle.iter_config.specs.Names.{name_or_none, names_in, spelled_in}
use Rattle.iter_config.specs.declared.iter_spec.Kind.{Kind}
use Rattle.iter_config.specs.declared.iter_spec.Kind.TheVariants.{Filter}
use Rattle.iter_config.specs.declared.predicate.Predicate.{Predicate}
use Rattle.iter_config.specs.declared.predicate.Predicate.TheVariants.{Family, QualifierSlice, VisibilitySet, Grep, Times}

-- the fields that each filter has
abbrev pub filter_keys : List (List ℕ)
filter_keys = codes "negate" ∷ shared_keys

-- whether a family is one of `families`
unfoldable pub family_test : Members → Option Predicate
family_test ms = do
  families ← get_member (codes "families") ms >>= names_in
  if keys_within (codes "families" ∷ filter_keys) ms then Some (Family families) else None

-- whether a qualifier is from `from` up to `to`
unfoldable pub qualifier_test : Members → Option Predicate
qualifier_test ms = do
  from ← name_or_none (get_member (codes "from") ms)
  to ← name_or_none (get_member (codes "to") ms)
  if keys_within (codes "from" ∷ codes "to" ∷ filter_keys) ms then Some (QualifierSlice from to) else None

-- whether a visibility is one of `visibilities`
unfoldable pub visibility_test : Members → Option Predicate
visibility_test ms = do
  visibilities ← get_member (codes "visibilities") ms >>= names_in
  if keys_within (codes "visibilities" ∷ filter_keys) ms then Some (VisibilitySet visibilities) else None

-- whether a needle stands in an entry; it has a byte at least
unfoldable pub grep_test : Members → Option Predicate
grep_test ms = do
  needle ← get_member (codes "needle") ms >>= spelled_in
  if nat_le 1 (length needle) then (if keys_within (codes "needle" ∷ filter_keys) ms then Some (Grep needle) else None) else None

-- whether a time is from `from` to `to`, which are the least and the greatest number of 64 bits where nothing stands
unfoldable pub times_test : Members → Option Predicate
times_test ms = do
  from ← integer_or (negsuc 9223372036854775807) (get_member (codes "from") ms)
  to ← integer_or (pos 9223372036854775807) (get_member (codes "to") ms)
  if keys_within (codes "from" ∷ codes "to" ∷ filter_keys) ms then Some (Times from to) else None

-- what the filter of a table tests, by the word of its kind
unfoldable pub test_of : List ℕ → Members → Option Predicate
test_of word ms =
    if bytes_eq word (codes "family") then family_test ms else
    if bytes_eq word (codes "qualifier_slice") then qualifier_test ms else
    if bytes_eq word (codes "visibility_set") then visibility_test ms else
    if bytes_eq word (codes "grep") then grep_test ms else
    if bytes_eq word (codes "times") then times_test ms else None

-- the filter of a table
unfoldable pub filter_of : List ℕ → Members → Option Kind
filter_of word ms = do
  predicate ← test_of word ms
  negate ← flag_in (get_member (codes "negate") ms)
  Some (Filter predicate negate)
