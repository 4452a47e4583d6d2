-- The fields of an iterator's table, one by one. All of this is this project's own.
use Rattle.std.specs.Prelude.{ℕ, ℤ, pos, negsuc, Bool, true, false, ◌&&◌, ◌||◌, ◌==◌, nat_le, if◌then◌else◌, List, [], ◌∷◌, length, Option, Some, None, codes}
use Rattle.std.specs.Char.{is_ascii_alphanumeric}
use Rattle.std.specs.List.{list_all, list_any}
use Rattle.std.specs.Str.{bytes_eq}
use Rattle.toml.specs.Data.{Data, Items, no_items, item, Members, no_members, member, as_array, as_bool, as_integer, as_str}
use Rattle.iter_config.specs.Faults.{◌>>=◌}
use Rattle.iter_config.specs.declared.iter_spec.Scopes.{Scopes}

-- a name of the list
abbrev pub is_among : List (List ℕ) → List ℕ → Bool
is_among names name = list_any (λ n. bytes_eq n name) names

-- each key is of the list
abbrev pub keys_within : List (List ℕ) → Members → Bool
keys_within names no_members = true
keys_within names (member key value rest) = is_among names key && keys_within names rest

-- a number from 0 up
abbrev pub natural : ℤ → Option ℕ
natural (pos n) = Some n
natural (negsuc n) = None

-- an integer in a range
abbrev pub number_in : ℕ → ℕ → Data → Option ℕ
number_in low high d = do
  z ← as_integer d
  n ← natural z
  if nat_le low n && nat_le n high then Some n else None

-- a letter or a digit of ASCII, _ or -
abbrev pub is_name_byte : ℕ → Bool
is_name_byte b = is_ascii_alphanumeric b || list_any (λ c. c == b) (codes "_-")

-- 1 to 32 of these
abbrev pub is_name : List ℕ → Bool
is_name text = (nat_le 1 (length text) && nat_le (length text) 32) && list_all is_name_byte text

-- the name of an iterator
abbrev pub name_in : Data → Option (List ℕ)
name_in d = do
  text ← as_str d
  if is_name text then Some text else None

-- no scope
abbrev pub no_scopes : Scopes
no_scopes = record { scan = false; minc = false; majc = false }

-- one scope more, which has to be another one
unfoldable pub with_scope : Scopes → List ℕ → Option Scopes
with_scope s word =
    if bytes_eq word (codes "scan") then (if s.scan then None else Some (record s { scan = true })) else
    if bytes_eq word (codes "minc") then (if s.minc then None else Some (record s { minc = true })) else
    if bytes_eq word (codes "majc") then (if s.majc then None else Some (record s { majc = true })) else None

-- these scopes and those of an array, all of them different
abbrev pub scopes_from : Scopes → Items → Option Scopes
scopes_from s no_items = Some s
scopes_from s (item d ds) = do
  word ← as_str d
  more ← with_scope s word
  scopes_from more ds

-- where an iterator runs: in one scope at least
unfoldable pub scopes_in : Data → Option Scopes
scopes_in d = do
  ds ← as_array d
  s ← scopes_from no_scopes ds
  if s.scan || s.minc || s.majc then Some s else None

-- a flag, which is false where nothing stands
abbrev pub flag_in : Option Data → Option Bool
flag_in None = Some false
flag_in (Some d) = as_bool d

-- an integer of 64 bits, or the one that stands for nothing
abbrev pub integer_or : ℤ → Option Data → Option ℤ
integer_or default None = Some default
integer_or default (Some d) = as_integer d

-- the fields that each iterator has
abbrev pub shared_keys : List (List ℕ)
shared_keys = codes "name" ∷ codes "priority" ∷ codes "kind" ∷ codes "scopes" ∷ []
