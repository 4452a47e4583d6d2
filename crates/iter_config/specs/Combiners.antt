-- The combiners that tables describe. The fields are this project's own; the operations are those of Accumulo's combiners.
use Rattle.std.specs.Prelude.{ℕ, if◌then◌else◌, List, ◌∷◌, Option, Some, None, codes}
use Rattle.std.specs.Str.{bytes_eq}
use Rattle.number_values.specs.declared.op.Encoding.{Encoding}
use Rattle.number_values.specs.declared.op.Encoding.TheVariants as encoding
use Rattle.number_values.specs.declared.op.Op.{Op}
use Rattle.number_values.specs.declared.op.Op.TheVariants as op
use Rattle.toml.specs.Data.{Data, Members, as_str, get_member}
use Rattle.iter_config.specs.Faults.{◌>>=◌}
use Rattle.iter_config.specs.Fields.{keys_within, shared_keys}
use Rattle.iter_config.specs.Names.{columns_in}
use Rattle.iter_config.specs.declared.iter_spec.Deletes.{Deletes}
use Rattle.iter_config.specs.declared.iter_spec.Deletes.TheVariants as deletes
use Rattle.iter_config.specs.declared.iter_spec.Kind.{Kind}
use Rattle.iter_config.specs.declared.iter_spec.Kind.TheVariants.{Combine}

-- the operation of a combiner's word
unfoldable pub op_of : List ℕ → Option Op
op_of word =
    if bytes_eq word (codes "sum") then Some op.Sum else
    if bytes_eq word (codes "min") then Some op.Min else
    if bytes_eq word (codes "max") then Some op.Max else
    if bytes_eq word (codes "array_sum") then Some op.ArraySum else None

-- how a combiner's values are spelled, by a word
unfoldable pub encoding_of : List ℕ → Option Encoding
encoding_of word =
    if bytes_eq word (codes "fixed") then Some encoding.Fixed else
    if bytes_eq word (codes "string") then Some encoding.String else None

-- which deletes its columns may have, by a word
unfoldable pub deletes_of : List ℕ → Option Deletes
deletes_of word =
    if bytes_eq word (codes "none") then Some deletes.None else
    if bytes_eq word (codes "full") then Some deletes.Full else None

-- which deletes a field allows: none where nothing stands
abbrev pub deletes_in : Option Data → Option Deletes
deletes_in None = Some deletes.None
deletes_in (Some d) = as_str d >>= deletes_of

-- a combiner of this operation
unfoldable pub combiner_of : Op → Members → Option Kind
combiner_of op ms = do
  columns ← get_member (codes "columns") ms >>= columns_in
  word ← get_member (codes "encoding") ms >>= as_str
  encoding ← encoding_of word
  deletes ← deletes_in (get_member (codes "deletes") ms)
  if keys_within (codes "columns" ∷ codes "encoding" ∷ codes "deletes" ∷ shared_keys) ms then Some (Combine op columns encoding deletes) else None
