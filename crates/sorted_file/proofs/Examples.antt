-- Worked images of both versions, and bytes that are no image.
use Rattle.std.proofs.Common.{◌≡◌, ℕ, pos, false, List, [], ◌∷◌, ◌++◌, take, Ok, Err, codes, refl}
use Rattle.tablet_model.specs.Cell.{Cell}
use Rattle.byte_fields.specs.Fields.{bytes_at, number_at}
use Rattle.sorted_file.specs.Image.{image_of, equal_parts, key_bytes, sharing_bytes, blocks_from}
use Rattle.sorted_file.specs.Reading.{fault, expected_at, version_at, head_at, row_at, part_at, flag_at, value_at, same_at, key_at, entry_at, next_entry_at, end_at, entries_at, index_at, footer_at, image_reading}
use Rattle.sorted_file.specs.declared.fault.ImageCause.TheVariants.{Length, Bound, Shared, Order, Tail}
use Rattle.sorted_file.specs.declared.fault.ImageCause.TheVariants as causes
use Rattle.sorted_file.specs.declared.version.Version.TheVariants.{One, Two}

-- the entry `ROW a:x: @1 =VALUE`
put : List ℕ → List ℕ → Cell
put row value = record {
  key = record { row = row; family = codes "a"; qualifier = codes "x"; visibility = []; time = pos 1; deleted = false };
  value = value;
}

-- ---- the images of no entries

none_one : List ℕ
none_one = 73 ∷ 84 ∷ 83 ∷ 70 ∷ 1 ∷ 0 ∷ 0 ∷ 0 ∷ 0 ∷ 0 ∷ 0 ∷ 0 ∷ 0 ∷ 0 ∷ 0 ∷ 70 ∷ 83 ∷ 84 ∷ 73 ∷ []

none_two : List ℕ
none_two = 73 ∷ 84 ∷ 83 ∷ 70 ∷ 2 ∷ 255 ∷ 0 ∷ 0 ∷ 0 ∷ 0 ∷ 0 ∷ 0 ∷ 0 ∷ 0 ∷ 70 ∷ 83 ∷ 84 ∷ 73 ∷ []

no_entries_one : image_of One [] ≡ none_one
unfolding image_of blocks_from none_one
no_entries_one = refl

no_entries_two : image_of Two [] ≡ none_two
unfolding image_of blocks_from none_two
no_entries_two = refl

-- ---- the images of one entry, with its row

-- what follows its row
behind_row : List ℕ
behind_row = 0 ∷ 1 ∷ 97 ∷ 0 ∷ 1 ∷ 120 ∷ 0 ∷ 0 ∷ 0 ∷ 0 ∷ 0 ∷ 0 ∷ 0 ∷ 0 ∷ 0 ∷ 1 ∷ 0 ∷ 0 ∷ 0 ∷ 0 ∷ 1 ∷ 49 ∷ []

entry : ℕ → List ℕ
entry row = 0 ∷ 2 ∷ 114 ∷ row ∷ behind_row

head : ℕ → List ℕ
head version = 73 ∷ 84 ∷ 83 ∷ 70 ∷ version ∷ []

-- what follows the end mark
footer : List ℕ
footer = 0 ∷ 0 ∷ 0 ∷ 0 ∷ 0 ∷ 0 ∷ 0 ∷ 5 ∷ 0 ∷ 0 ∷ 0 ∷ 0 ∷ 0 ∷ 0 ∷ 0 ∷ 1 ∷ 70 ∷ 83 ∷ 84 ∷ 73 ∷ []

one : List ℕ
one = head 1 ++ entry 49 ++ 0 ∷ 0 ∷ footer

two : List ℕ
two = head 2 ++ 0 ∷ entry 49 ++ 255 ∷ footer

one_entry_one : image_of One (put (codes "r1") (codes "1") ∷ []) ≡ one
unfolding image_of key_bytes sharing_bytes blocks_from one head entry behind_row footer put
one_entry_one = refl

one_entry_two : image_of Two (put (codes "r1") (codes "1") ∷ []) ≡ two
unfolding image_of key_bytes sharing_bytes blocks_from two head entry behind_row footer put
one_entry_two = refl

-- ---- the image of two entries that share all four parts

twice : List ℕ
twice = head 2 ++ 0 ∷ entry 49 ++ 4 ∷ 0 ∷ 0 ∷ 0 ∷ 0 ∷ 0 ∷ 0 ∷ 0 ∷ 1 ∷ 0 ∷ 0 ∷ 0 ∷ 0 ∷ 1 ∷ 50 ∷ 255 ∷ 0 ∷ 0 ∷ 0 ∷ 0 ∷ 0 ∷ 0 ∷ 0 ∷ 5 ∷ 0 ∷ 0 ∷ 0 ∷ 0 ∷ 0 ∷ 0 ∷ 0 ∷ 2 ∷ 70 ∷ 83 ∷ 84 ∷ 73 ∷ []

shared : image_of Two (put (codes "r1") (codes "1") ∷ put (codes "r1") (codes "2") ∷ []) ≡ twice
unfolding image_of equal_parts key_bytes sharing_bytes blocks_from twice head entry behind_row put
shared = refl

-- ---- how bytes are read

reads_nothing : image_reading none_one ≡ Ok (record { version = One; cells = [] })
unfolding image_reading head_at version_at expected_at bytes_at number_at end_at entries_at index_at footer_at blocks_from none_one
reads_nothing = refl

reads_one : image_reading one ≡ Ok (record { version = One; cells = put (codes "r1") (codes "1") ∷ [] })
unfolding image_reading head_at version_at expected_at bytes_at number_at end_at entries_at next_entry_at entry_at same_at key_at row_at part_at flag_at value_at index_at footer_at blocks_from key_bytes sharing_bytes one head entry behind_row footer put
reads_one = refl

reads_shared : image_reading twice ≡ Ok (record { version = Two; cells = put (codes "r1") (codes "1") ∷ put (codes "r1") (codes "2") ∷ [] })
unfolding image_reading head_at version_at expected_at bytes_at number_at end_at entries_at next_entry_at entry_at same_at key_at row_at part_at flag_at value_at index_at footer_at blocks_from equal_parts key_bytes sharing_bytes twice head entry behind_row put Rattle.tablet_model.specs.Order.above Rattle.tablet_model.specs.Order.cell_cmp Rattle.tablet_model.specs.Order.key_cmp Rattle.tablet_model.specs.Order.column_cmp Rattle.tablet_model.specs.Order.time_cmp
reads_shared = refl

no_bytes : image_reading [] ≡ Err (fault Length 0)
unfolding image_reading head_at expected_at bytes_at
no_bytes = refl

-- neither version
later_version : image_reading (head 9) ≡ Err (fault causes.Version 4)
unfolding image_reading head_at version_at expected_at bytes_at head
later_version = refl

-- the time is cut
cut : image_reading (take 20 one) ≡ Err (fault Length 17)
unfolding image_reading head_at version_at expected_at bytes_at number_at end_at entries_at next_entry_at entry_at same_at key_at row_at part_at one head entry behind_row footer
cut = refl

-- an entry that sorts before the one before it
disordered : image_reading (head 1 ++ entry 50 ++ entry 49) ≡ Err (fault Order 31)
unfolding image_reading head_at version_at expected_at bytes_at number_at end_at entries_at next_entry_at entry_at same_at key_at row_at part_at flag_at value_at head entry behind_row Rattle.tablet_model.specs.Order.above Rattle.tablet_model.specs.Order.cell_cmp Rattle.tablet_model.specs.Order.key_cmp Rattle.tablet_model.specs.Order.column_cmp
disordered = refl

-- a block's first entry shares nothing
first_shares : image_reading (head 2 ++ 1 ∷ entry 49) ≡ Err (fault Bound 5)
unfolding image_reading head_at version_at expected_at bytes_at number_at end_at entries_at next_entry_at entry_at same_at head entry behind_row
first_shares = refl

-- an entry that shares three parts where it could share four; it sorts before the one before it, too
shares_less : image_reading (head 2 ++ 0 ∷ entry 50 ++ 3 ∷ 0 ∷ 0 ∷ 0 ∷ 0 ∷ 0 ∷ 0 ∷ 0 ∷ 0 ∷ 0 ∷ 1 ∷ 0 ∷ 0 ∷ 0 ∷ 0 ∷ 1 ∷ 48 ∷ []) ≡ Err (fault Shared 32)
unfolding image_reading head_at version_at expected_at bytes_at number_at end_at entries_at next_entry_at entry_at same_at key_at row_at part_at flag_at value_at equal_parts head entry behind_row
shares_less = refl

-- a byte follows
longer : image_reading (two ++ 0 ∷ []) ≡ Err (fault Tail 53)
unfolding image_reading head_at version_at expected_at bytes_at number_at end_at entries_at next_entry_at entry_at same_at key_at row_at part_at flag_at value_at index_at footer_at blocks_from equal_parts key_bytes sharing_bytes two head entry behind_row footer
longer = refl
