-- The iterators that tables describe. The fields are this project's own.
use Rattle.std.specs.Prelude.{ℕ, ◌+◌, if◌then◌else◌, List, [], ◌∷◌, Option, Some, None, codes, Result, Ok, Err}
use Rattle.std.specs.Str.{bytes_eq}
use Rattle.toml.specs.Data.{Data, Items, no_items, item, Members, as_str, as_table, get_member}
use Rattle.iter_config.specs.Faults.{◌>>=◌, Fault, fault}
use Rattle.number_values.specs.declared.op.Op.{Op}
use Rattle.iter_config.specs.Combiners.{combiner_of, op_of}
use Rattle.iter_config.specs.Fields.{keys_within, name_in, number_in, scopes_in, shared_keys}
use Rattle.iter_config.specs.Filters.{filter_of}
use Rattle.iter_config.specs.Limits.{max_priority}
use Rattle.iter_config.specs.ScanOnly.{whole_row_of, intersecting_of}
use Rattle.iter_config.specs.declared.iter_spec.Kind.{Kind}
use Rattle.iter_config.specs.declared.iter_spec.Kind.TheVariants.{Versions}
use Rattle.iter_config.specs.declared.iter_spec.IterSpec.{IterSpec}
use Rattle.iter_config.specs.declared.error.Rule.TheVariants.{Field}

-- `max` versions of each column, and no other field
unfoldable pub versions_of : Members → Option Kind
versions_of ms = do
  max ← get_member (codes "max") ms >>= number_in 1 1000
  if keys_within (codes "max" ∷ shared_keys) ms then Some (Versions max) else None

-- a combiner of an operation, or else a filter
abbrev pub combiner_or_filter : Option Op → List ℕ → Members → Option Kind
combiner_or_filter (Some op) word ms = combiner_of op ms
combiner_or_filter None word ms = filter_of word ms

-- what the iterator of a table does, by the word of its kind
unfoldable pub kind_of : List ℕ → Members → Option Kind
kind_of word ms =
    if bytes_eq word (codes "versions") then versions_of ms else
    if bytes_eq word (codes "whole_row") then whole_row_of ms else
    if bytes_eq word (codes "intersecting") then intersecting_of ms else combiner_or_filter (op_of word) word ms

-- the iterator that a table describes
unfoldable pub iterator_of : Data → Option IterSpec
iterator_of d = do
  ms ← as_table d
  name ← get_member (codes "name") ms >>= name_in
  priority ← get_member (codes "priority") ms >>= number_in 1 max_priority
  scopes ← get_member (codes "scopes") ms >>= scopes_in
  word ← get_member (codes "kind") ms >>= as_str
  kind ← kind_of word ms
  Some (record { name = name; priority = priority; kind = kind; scopes = scopes })

-- an iterator in front of others, or the fault of the others
abbrev pub in_front : IterSpec → Result (List IterSpec) Fault → Result (List IterSpec) Fault
in_front spec (Ok specs) = Ok (spec ∷ specs)
in_front spec (Err f) = Err f

-- the iterator number n in front of the others; if its table describes none, that is the first fault
abbrev pub with_iterator : ℕ → Option IterSpec → Result (List IterSpec) Fault → Result (List IterSpec) Fault
with_iterator n None rest = Err (fault Field n)
with_iterator n (Some spec) rest = in_front spec rest

-- the iterators of an array, numbered from n
abbrev pub iterators_from : ℕ → Items → Result (List IterSpec) Fault
iterators_from n no_items = Ok []
iterators_from n (item d ds) = with_iterator n (iterator_of d) (iterators_from (n + 1) ds)
