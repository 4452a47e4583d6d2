-- The images of a sorted file: the bytes of version 1 and of version 2. All numbers are big-endian. The format is this project's own;
-- that a sorted file has blocks of entries and an index of them, and that an entry leaves out parts of its key that equal those of the
-- entry before it, is Accumulo's.
use Rattle.std.specs.Prelude.{ℕ, ◌+◌, ◌%◌, Bool, ◌==◌, nat_lt, if◌then◌else◌, List, [], ◌∷◌, ◌++◌, length, take, codes, Option, Some, None}
use Rattle.std.specs.Int.{w64, cast_unsigned}
use Rattle.std.specs.List.{flat_map}
use Rattle.std.specs.Str.{bytes_eq}
use Rattle.byteorder.specs.Endian.{big_bytes}
use Rattle.tablet_model.specs.Cell.{CellKey, Cell}
use Rattle.byte_fields.specs.Fields.{sized_bytes}
use Rattle.sorted_file.specs.Versions.{version_number, end_mark, same_bytes, has_neighbour}
use Rattle.sorted_file.specs.declared.version.Version.{Version}

-- what an image begins with
abbrev pub magic : List ℕ
magic = codes "ITSF"

-- the version of the format
abbrev pub version_bytes : Version → List ℕ
version_bytes v = version_number v ∷ []

-- what an image ends with
abbrev pub end_magic : List ℕ
end_magic = codes "FSTI"

-- a part of a key: its length in two bytes, and its bytes
abbrev pub part_bytes : List ℕ → List ℕ
part_bytes part = sized_bytes 2 part

-- the byte that tells a delete marker from a live entry
abbrev pub flag_bytes : Bool → List ℕ
flag_bytes deleted = if deleted then 1 ∷ [] else 0 ∷ []

-- a value: its length in four bytes, and its bytes
abbrev pub value_bytes : List ℕ → List ℕ
value_bytes value = sized_bytes 4 value

-- how many leading parts two keys have in common, of row, family, qualifier and visibility
unfoldable pub equal_parts : CellKey → CellKey → ℕ
equal_parts a b =
    if bytes_eq a.row b.row then
    (if bytes_eq a.family b.family then
    (if bytes_eq a.qualifier b.qualifier then (if bytes_eq a.visibility b.visibility then 4 else 3) else 2) else 1) else 0

-- the entry that may share parts with the one behind it, of which n are before that one
abbrev pub neighbour : Version → ℕ → Option Cell → Option Cell
neighbour v n before = if has_neighbour v n then before else None

-- how many parts an entry shares with its neighbour: as many as may be
abbrev pub shared_parts : Option Cell → Cell → ℕ
shared_parts None e = 0
shared_parts (Some near) e = equal_parts near.key e.key

-- a part of a key that isn't shared
abbrev pub own_bytes : Bool → List ℕ → List ℕ
own_bytes is_shared part = if is_shared then [] else part_bytes part

-- a key of which so many parts are shared: its other parts, its time in eight bytes and its flag
unfoldable pub key_bytes : ℕ → CellKey → List ℕ
key_bytes same k =
    own_bytes (nat_lt 0 same) k.row ++ own_bytes (nat_lt 1 same) k.family ++ own_bytes (nat_lt 2 same) k.qualifier ++ own_bytes (nat_lt 3 same) k.visibility
    ++ big_bytes 8 (cast_unsigned w64 k.time) ++ flag_bytes k.deleted

-- an entry of whose key so many parts are shared: their number, the key and the value
unfoldable pub sharing_bytes : Version → ℕ → Cell → List ℕ
sharing_bytes v same e = same_bytes v same ++ key_bytes same e.key ++ value_bytes e.value

-- an entry with its neighbour
abbrev pub entry_bytes : Version → Option Cell → Cell → List ℕ
entry_bytes v near e = sharing_bytes v (shared_parts near e) e

-- some entries, one behind the other; n entries stand before them, of which this one is the last
abbrev pub entries_from : Version → ℕ → Option Cell → List Cell → List ℕ
entries_from v n before [] = []
entries_from v n before (e ∷ es) = entry_bytes v (neighbour v n before) e ++ entries_from v (n + 1) (Some e) es

-- the entries of an image
abbrev pub entries_bytes : Version → List Cell → List ℕ
entries_bytes v list = entries_from v 0 None list

-- the place of the entry behind the first i ones; they stand behind the magic and the version
abbrev pub entry_place : Version → List Cell → ℕ → ℕ
entry_place v list i = 5 + length (entries_bytes v (take i list))

-- the place of an entry, if a block begins with it: each 64th entry begins one, and n entries stand before this one
abbrev pub block_start : ℕ → ℕ → List ℕ
block_start n at = if n % 64 == 0 then at ∷ [] else []

-- the places of the blocks that begin with some entries, which stand at a place; n entries stand before them, of which this one is the last
unfoldable pub blocks_from : Version → ℕ → ℕ → Option Cell → List Cell → List ℕ
blocks_from v n at before [] = []
blocks_from v n at before (e ∷ es) =
    block_start n at ++ blocks_from v (n + 1) (at + length (entry_bytes v (neighbour v n before) e)) (Some e) es

-- the places of the blocks of an image
abbrev pub block_places : Version → List Cell → List ℕ
block_places v list = blocks_from v 0 5 None list

-- the index: each block's place, in eight bytes
abbrev pub index_bytes : List ℕ → List ℕ
index_bytes places = flat_map (λ place. big_bytes 8 place) places

-- what stands behind the entries of an image
abbrev pub footer_bytes : Version → List Cell → List ℕ
footer_bytes v list = end_mark v ++ index_bytes (block_places v list) ++ big_bytes 8 (length list) ++ end_magic

-- the one image of a list in a version
unfoldable pub image_of : Version → List Cell → List ℕ
image_of v list = (magic ++ version_bytes v) ++ entries_bytes v list ++ footer_bytes v list
