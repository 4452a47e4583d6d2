-- How the text of a row is read, field by field; the place of the first fault is the answer where there is one. This is this
-- project's own.
use Rattle.std.specs.Prelude.{ℕ, zero, suc, ◌==◌, if◌then◌else◌, nat_lt, false, List, [], ◌∷◌, length, Option, Some, None, Result, Ok, Err}
use Rattle.std.specs.Int.{w64, cast_signed}
use Rattle.tablet_model.specs.Cell.{CellKey, Cell}
use Rattle.byte_fields.specs.Fields.{◌>>=◌, Unread, number_at, its_place, sized_at}
use Rattle.iter_contract.specs.Following.{is_out_of_order}

-- the number of entries, at least 1
unfoldable pub count_at : Unread → Result (ℕ × Unread) ℕ
count_at u = do
  n ← number_at 8 u
  if n.0 == 0 then Err u.at else Ok n

-- a part of a key: its length, at most 1,024, and its bytes
unfoldable pub part_at : Unread → Result (List ℕ × Unread) ℕ
part_at u = sized_at its_place its_place 2 (λ n. nat_lt 1024 n) u

-- a value: its length and its bytes
unfoldable pub value_at : Unread → Result (List ℕ × Unread) ℕ
value_at u = sized_at its_place its_place 8 (λ n. false) u

-- the key of an entry of a row: its other parts and its time
unfoldable pub key_at : List ℕ → Unread → Result (CellKey × Unread) ℕ
key_at row u = do
  family ← part_at u
  qualifier ← part_at family.1
  visibility ← part_at qualifier.1
  time ← number_at 8 visibility.1
  Ok (
    record {
      row = row;
      family = family.0;
      qualifier = qualifier.0;
      visibility = visibility.0;
      time = cast_signed w64 time.0;
      deleted = false;
    },
    time.1,
  )

-- an entry of a row: its key and its value
unfoldable pub entry_at : List ℕ → Unread → Result (Cell × Unread) ℕ
entry_at row u = do
  key ← key_at row u
  value ← value_at key.1
  Ok (record { key = key.0; value = value.0 }, value.1)

-- an entry that doesn't sort before the one before it
unfoldable pub next_entry_at : List ℕ → Option Cell → Unread → Result (Cell × Unread) ℕ
next_entry_at row before u = do
  entry ← entry_at row u
  if is_out_of_order before entry.0 then Err u.at else Ok entry

-- some number of entries
unfoldable pub entries_at : List ℕ → ℕ → Option Cell → Unread → Result (List Cell × Unread) ℕ
entries_at row zero before u = Ok ([], u)
entries_at row (suc n) before u = do
  entry ← next_entry_at row before u
  entries ← entries_at row n (Some entry.0) entry.1
  Ok (entry.0 ∷ entries.0, entries.1)

-- the entries of a row, whose text the bytes are, or the place of the first fault of bytes that are no such text: a byte behind
-- the last entry is a fault too
unfoldable pub row_reading : List ℕ → List ℕ → Result (List Cell) ℕ
row_reading row bytes = do
  count ← count_at (record { at = 0; rest = bytes })
  entries ← entries_at row count.0 None count.1
  if length entries.1.rest == 0 then Ok entries.0 else Err entries.1.at
