-- The configuration that a document is, or the first rule that it breaks. All of this is this project's own; the text is TOML.
use Rattle.std.specs.Prelude.{ℕ, ◌+◌, false, nat_le, if◌then◌else◌, List, [], ◌∷◌, map, Option, Some, None, codes, Result, Ok, Err}
use Rattle.std.specs.Str.{is_utf8}
use Rattle.toml.specs.Data.{Data, Items, no_items, item, Members, as_array, get_member}
use Rattle.toml.specs.Parse.{parse_document}
use Rattle.iter_config.specs.Faults.{Fault, fault}
use Rattle.iter_config.specs.Fields.{keys_within}
use Rattle.iter_config.specs.Iterators.{iterators_from}
use Rattle.iter_config.specs.Names.{timed_or_none}
use Rattle.iter_config.specs.Order.{in_priority_order}
use Rattle.iter_config.specs.Rules.{all_scopes, first_beyond_scans, first_breaking, first_gap, first_repeat, first_unscanned}
use Rattle.iter_config.specs.Settings.{Settings}
use Rattle.iter_config.specs.declared.iter_spec.IterSpec.{IterSpec}
use Rattle.iter_config.specs.declared.error.Rule.{Rule}
use Rattle.iter_config.specs.declared.error.Rule.TheVariants.{Toml, Field, Name, Priority, NoScan, NotPrefix, ScanOnly, Order, Overlap, FullUnderVersions}

-- the document of some bytes, which have to be UTF-8
abbrev pub document_of : List ℕ → Option Members
document_of bytes = if is_utf8 bytes then parse_document bytes else None

-- how many items an array has
abbrev pub count_items : Items → ℕ
count_items no_items = 0
count_items (item d ds) = count_items ds + 1

-- the iterators of what should be an array of at most 16
abbrev pub of_array : Option Items → Result (List IterSpec) Fault
of_array None = Err (fault Field 0)
of_array (Some ds) = if nat_le (count_items ds) 16 then iterators_from 1 ds else Err (fault Field 0)

-- the iterators of what stands under the one key, if anything does
abbrev pub of_value : Option Data → Result (List IterSpec) Fault
of_value None = Ok []
of_value (Some d) = of_array (as_array d)

-- the iterators of a document, as they stand there
abbrev pub iterators_of : Members → Result (List IterSpec) Fault
iterators_of ms = of_value (get_member (codes "iterator") ms)

-- a rule is broken by the iterator of this number, or by none and then the next rules follow
abbrev pub broken_by : Rule → Option ℕ → Result (List IterSpec) Fault → Result (List IterSpec) Fault
broken_by rule None next = next
broken_by rule (Some n) next = Err (fault rule n)

-- the iterators of a configuration, which are in priority order here; their document has these priorities
unfoldable pub in_order : List ℕ → List IterSpec → Result (List IterSpec) Fault
in_order priorities specs =
    broken_by NoScan (first_unscanned priorities specs)
    (broken_by NotPrefix (first_gap priorities all_scopes specs)
    (broken_by ScanOnly (first_beyond_scans priorities false specs)
    (broken_by Order (first_breaking Order priorities specs)
    (broken_by Overlap (first_breaking Overlap priorities specs)
    (broken_by FullUnderVersions (first_breaking FullUnderVersions priorities specs)
    (Ok specs))))))

-- the priorities of some iterators
abbrev pub priorities_of : List IterSpec → List ℕ
priorities_of specs = map (λ s. s.priority) specs

-- the iterators of a configuration, in priority order: no two share a name or a priority, and so they keep the other rules
unfoldable pub config_of_iterators : List IterSpec → Result (List IterSpec) Fault
config_of_iterators specs =
    broken_by Name (first_repeat Name specs)
    (broken_by Priority (first_repeat Priority specs)
    (in_order (priorities_of specs) (in_priority_order specs)))

-- the iterators of a configuration, from those that were read
abbrev pub config_from : Result (List IterSpec) Fault → Result (List IterSpec) Fault
config_from (Ok specs) = config_of_iterators specs
config_from (Err f) = Err f

-- the configuration of its iterators, with its families
abbrev pub with_timed : List (List ℕ) → Result (List IterSpec) Fault → Result Settings Fault
with_timed timed (Ok specs) = Ok (record { iterators = specs; timed = timed })
with_timed timed (Err f) = Err f

-- the configuration of the families that were read, and of its iterators: a fault in the document itself comes first
abbrev pub config_with : Option (List (List ℕ)) → Result (List IterSpec) Fault → Result Settings Fault
config_with None specs = Err (fault Field 0)
config_with (Some timed) specs = with_timed timed specs

-- the configuration of a document, whose keys are `iterator` and `timed`
unfoldable pub config_of_members : Members → Result Settings Fault
config_of_members ms =
    if keys_within (codes "iterator" ∷ codes "timed" ∷ []) ms then config_with (timed_or_none (get_member (codes "timed") ms)) (config_from (iterators_of ms)) else Err (fault Field 0)

-- the configuration of a document, if there is one
abbrev pub config_in : Option Members → Result Settings Fault
config_in None = Err (fault Toml 0)
config_in (Some ms) = config_of_members ms

-- the configuration of some bytes
abbrev pub config_of : List ℕ → Result Settings Fault
config_of bytes = config_in (document_of bytes)
