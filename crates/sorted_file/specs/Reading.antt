-- How the bytes of an image are read, field by field: at each field first that it lies within the bytes, then its rule. The first
-- fault is the answer. Both versions are read alike but for the end mark and the number of shared parts. This is this project's own.
use Rattle.std.specs.Prelude.{ℕ, zero, suc, ◌+◌, Bool, true, false, ◌||◌, ◌==◌, if◌then◌else◌, nat_lt, List, [], ◌∷◌, length, slice_index, Option, Some, None, option_map, Result, Ok, Err}
use Rattle.std.specs.Int.{w64, cast_signed}
use Rattle.std.specs.Str.{bytes_eq}
use Rattle.byteorder.specs.Endian.{big_bytes}
use Rattle.tablet_model.specs.Limits.{max_part}
use Rattle.tablet_model.specs.Cell.{CellKey, Cell}
use Rattle.byte_fields.specs.Fields.{◌>>=◌, Unread, bytes_at, number_at, with_error, sized_at}
use Rattle.sorted_file.specs.Image.{magic, end_magic, neighbour, shared_parts, block_places}
use Rattle.sorted_file.specs.Contents.{FileContents}
use Rattle.iter_contract.specs.Following.{is_out_of_order}
use Rattle.sorted_file.specs.Lists.{longest_value}
use Rattle.sorted_file.specs.declared.fault.Fault.{Fault}
use Rattle.sorted_file.specs.declared.fault.ImageCause.{ImageCause}
use Rattle.sorted_file.specs.declared.fault.ImageCause.TheVariants.{Length, Magic, Bound, Shared, Order, Index, Tail}
use Rattle.sorted_file.specs.declared.fault.ImageCause.TheVariants as causes
use Rattle.sorted_file.specs.declared.version.Version.{Version}
use Rattle.sorted_file.specs.declared.version.Version.TheVariants.{One, Two}

-- a fault of this cause at this place
abbrev pub fault : ImageCause → ℕ → Fault
fault cause at = record { at = at; cause = cause }

-- the reading of a field, which is a fault of its length where it is cut
abbrev pub whole_field : {A : Type 0} → Result A ℕ → Result A Fault
whole_field reading = with_error (fault Length) reading

-- a field that can only be these bytes
unfoldable pub expected_at : ImageCause → List ℕ → Unread → Result Unread Fault
expected_at cause bytes u = do
  found ← whole_field (bytes_at (length bytes) u)
  if bytes_eq found.0 bytes then Ok found.1 else Err (fault cause u.at)

-- a row: its length, 1 to 1,024, and its bytes
unfoldable pub row_at : Unread → Result (List ℕ × Unread) Fault
row_at u = sized_at (fault Length) (fault Bound) 2 (λ n. n == 0 || nat_lt max_part n) u

-- another part of a key: its length, at most 1,024, and its bytes
unfoldable pub part_at : Unread → Result (List ℕ × Unread) Fault
part_at u = sized_at (fault Length) (fault Bound) 2 (λ n. nat_lt max_part n) u

-- whether an entry is a marker: a byte 1 or 0
unfoldable pub flag_at : Unread → Result (Bool × Unread) Fault
flag_at u = do
  flag ← whole_field (bytes_at 1 u)
  if slice_index flag.0 0 == 0 then Ok (false, flag.1)
      else (if slice_index flag.0 0 == 1 then Ok (true, flag.1) else Err (fault Bound u.at))

-- a value: its length, as long as may be, and its bytes
unfoldable pub value_at : Bool → Unread → Result (List ℕ × Unread) Fault
value_at deleted u = sized_at (fault Length) (fault Bound) 4 (λ n. nat_lt (longest_value deleted) n) u

-- how many parts an entry may share: none without a neighbour
abbrev pub most_shared : Option Cell → ℕ
most_shared None = 0
most_shared (Some near) = 4

-- how many parts an entry shares with its neighbour, as it says in version 2
unfoldable pub same_at : Version → Option Cell → Unread → Result (ℕ × Unread) Fault
same_at One near u = Ok (0, u)
same_at Two near u = do
  same ← whole_field (bytes_at 1 u)
  if nat_lt (most_shared near) (slice_index same.0 0) then Err (fault Bound u.at) else Ok (slice_index same.0 0, same.1)

-- the neighbour's key, if a part of it is shared: the i-th of them, from 0
abbrev pub sharer : ℕ → ℕ → Option Cell → Option CellKey
sharer i same near = if nat_lt i same then option_map (λ e. e.key) near else None

-- a part of a key: that of the neighbour's, or what is read
abbrev pub shared_or : (CellKey → List ℕ) → (Unread → Result (List ℕ × Unread) Fault) → Option CellKey → Unread → Result (List ℕ × Unread) Fault
shared_or part read (Some near) u = Ok (part near, u)
shared_or part read None u = read u

-- a key of which so many parts are the neighbour's: its other parts, its time and its flag
unfoldable pub key_at : ℕ → Option Cell → Unread → Result (CellKey × Unread) Fault
key_at same near u = do
  row ← shared_or (λ k. k.row) row_at (sharer 0 same near) u
  family ← shared_or (λ k. k.family) part_at (sharer 1 same near) row.1
  qualifier ← shared_or (λ k. k.qualifier) part_at (sharer 2 same near) family.1
  visibility ← shared_or (λ k. k.visibility) part_at (sharer 3 same near) qualifier.1
  time ← whole_field (number_at 8 visibility.1)
  deleted ← flag_at time.1
  Ok (
    record {
      row = row.0;
      family = family.0;
      qualifier = qualifier.0;
      visibility = visibility.0;
      time = cast_signed w64 time.0;
      deleted = deleted.0;
    },
    deleted.1,
  )

-- an entry with its neighbour: how many parts it shares, its key and its value
unfoldable pub entry_at : Version → Option Cell → Unread → Result ((ℕ × Cell) × Unread) Fault
entry_at v near u = do
  same ← same_at v near u
  key ← key_at same.0 near same.1
  value ← value_at key.0.deleted key.1
  Ok ((same.0, record { key = key.0; value = value.0 }), value.1)

-- an entry that shares as many parts as may be and doesn't sort before the one before it; n entries stand before it
unfoldable pub next_entry_at : Version → ℕ → Option Cell → Unread → Result (Cell × Unread) Fault
next_entry_at v n before u = do
  entry ← entry_at v (neighbour v n before) u
  if shared_parts (neighbour v n before) entry.0.1 == entry.0.0 then
      (if is_out_of_order before entry.0.1 then Err (fault Order u.at) else Ok (entry.0.1, entry.1))
      else Err (fault Shared u.at)

-- whether the end mark stands in the place of an entry's first field
unfoldable pub end_at : Version → Unread → Result (Bool × Unread) Fault
end_at One u = do
  row ← whole_field (number_at 2 u)
  Ok (row.0 == 0, row.1)
end_at Two u = do
  same ← whole_field (bytes_at 1 u)
  Ok (slice_index same.0 0 == 255, same.1)

-- the entries up to the end mark, of which there are at most as many as the first number says: it is the number of bytes. So many
-- entries as the second number says stand before them, and the last of them is this one.
unfoldable pub entries_at : Version → ℕ → ℕ → Option Cell → Unread → Result (List Cell × Unread) Fault
entries_at v zero n before u = Err (fault Length u.at)
entries_at v (suc most) n before u = do
  end ← end_at v u
  if end.0 then Ok ([], end.1) else do
    entry ← next_entry_at v n before u
    entries ← entries_at v most (n + 1) (Some entry.0) entry.1
    Ok (entry.0 ∷ entries.0, entries.1)

-- the index, which can only be these places
unfoldable pub index_at : List ℕ → Unread → Result Unread Fault
index_at [] u = Ok u
index_at (place ∷ places) u = do
  rest ← expected_at Index (big_bytes 8 place) u
  index_at places rest

-- the version: a byte 1 or 2
unfoldable pub version_at : Unread → Result (Version × Unread) Fault
version_at u = do
  number ← whole_field (bytes_at 1 u)
  if slice_index number.0 0 == 1 then Ok (One, number.1)
      else (if slice_index number.0 0 == 2 then Ok (Two, number.1) else Err (fault causes.Version u.at))

-- what stands before the entries, of which the version is kept
unfoldable pub head_at : Unread → Result (Version × Unread) Fault
head_at u = do
  behind ← expected_at Magic magic u
  version_at behind

-- what stands behind the entries, and then nothing: the index of these places, the count and the end
unfoldable pub footer_at : List ℕ → ℕ → Unread → Result Unread Fault
footer_at places count u = do
  index ← index_at places u
  number ← expected_at Tail (big_bytes 8 count) index
  end ← expected_at Tail end_magic number
  if length end.rest == 0 then Ok end else Err (fault Tail end.at)

-- the version and the list whose image the bytes are, or the first fault of bytes that are no image
unfoldable pub image_reading : List ℕ → Result FileContents Fault
image_reading bytes = do
  start ← head_at (record { at = 0; rest = bytes })
  entries ← entries_at start.0 (length bytes) 0 None start.1
  end ← footer_at (block_places start.0 entries.0) (length entries.0) entries.1
  Ok (record { version = start.0; cells = entries.0 })
