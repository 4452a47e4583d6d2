-- What a builder has, by its fields (this project's own).
use Rattle.std.specs.Prelude.{◌≡◌, ℕ, List, [], ◌++◌, length, drop, Some, None, Result, Ok, Err}
use Rattle.tablet_model.specs.Cell.{Cell}
use Rattle.sorted_file.specs.Image.{magic, version_bytes, entries_bytes, block_places}
use Rattle.sorted_file.specs.Lists.{IsFileList, last_of}
use Rattle.sorted_file.specs.Outlines.{IsOutlined}
use Rattle.sorted_file.specs.Versions.{end_mark}
use Rattle.byte_fields.specs.Fields.{Unread}
use Rattle.sorted_file.specs.Reading.{entries_at}
use Rattle.sorted_file.specs.declared.builder.FileBuilder.TheInside.{Inside}
use Rattle.sorted_file.specs.declared.fault.Fault.{Fault}
use Rattle.sorted_file.specs.declared.version.Version.TheVariants.{Two}

-- the entries that were read, or none
abbrev pub entries_read : Result (List Cell × Unread) Fault → List Cell
entries_read (Ok x) = x.0
entries_read (Err fault) = []

-- the entries that stand so far in an image of version 2
abbrev pub begun_list : List ℕ → List Cell
begun_list bytes = entries_read (entries_at Two (length bytes) 0 None (record { at = 5; rest = drop 5 bytes ++ end_mark Two }))

-- the entries of a builder
abbrev pub built_list : Inside → List Cell
built_list b = begun_list b.bytes

-- the bytes are those that the image of the entries begins with, the blocks and the count are the entries', and the last entry's parts
-- are kept
pub record IsBuilt (b : Inside) : Type 0 where
  pub image : b.bytes ≡ (magic ++ version_bytes Two) ++ entries_bytes Two (built_list b)
  pub list : IsFileList (built_list b)
  pub blocks : b.blocks.items ≡ block_places Two (built_list b)
  pub count : b.count ≡ length (built_list b)
  pub last : (e : Cell) → last_of (built_list b) ≡ Some e → IsOutlined b.bytes e b.last
