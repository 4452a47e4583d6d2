-- Where the parts of an entry stand in an image (this project's own). In version 2 a part may stand in an entry before it.
use Rattle.std.specs.Prelude.{◌≡◌, ℕ, ◌+◌, ◌≤◌, nat_lt, Bool, true, false, List, length, Option, Some, None, slice_get, slice_range}
use Rattle.tablet_model.specs.Cell.{Cell}
use Rattle.tablet_model.specs.Bounds.{IsEntry}
use Rattle.sorted_file.specs.Contents.{FileContents}
use Rattle.sorted_file.specs.Image.{entry_place, image_of}
use Rattle.sorted_file.specs.declared.outline.Outline.{Outline}
use Rattle.sorted_file.specs.declared.outline.Stretch.{Stretch}
use Rattle.sorted_file.specs.declared.spot.Spot.{Spot}

-- a stretch of some bytes is a part of an entry
pub record IsSlice (bytes : List ℕ) (s : Stretch) (part : List ℕ) : Type 0 where
  pub order : s.start ≤ s.end
  pub within : s.end ≤ length bytes
  pub is : slice_range bytes s.start s.end ≡ part

-- the parts of an entry are the stretches of some bytes that an outline finds
pub record IsOutlined (bytes : List ℕ) (e : Cell) (o : Outline) : Type 0 where
  pub row : IsSlice bytes o.row e.key.row
  pub family : IsSlice bytes o.family e.key.family
  pub qualifier : IsSlice bytes o.qualifier e.key.qualifier
  pub visibility : IsSlice bytes o.visibility e.key.visibility
  pub value : IsSlice bytes o.value e.value
  pub time : o.time ≡ e.key.time
  pub deleted : o.deleted ≡ e.key.deleted
  pub is_entry : IsEntry e

-- the same for an entry that may be absent
abbrev pub AreOutlined : List ℕ → Option Cell → Option Outline → Type 0
AreOutlined bytes (Some e) (Some o) = IsOutlined bytes e o
AreOutlined bytes None None = Unit {0}
AreOutlined bytes _ _ = ⊥

-- a spot has the outline of the i-th entry of a file, if there is one, and the next one stands behind its value
abbrev pub IsSpot : FileContents → Spot → Type 0
IsSpot file spot =
    (e : Cell) → slice_get file.cells spot.index ≡ Some e
    → IsOutlined (image_of file.version file.cells) e spot.outline × (spot.outline.value.end ≡ entry_place file.version file.cells (spot.index + 1))

-- where a part stands of which the entry has so many bytes: where the neighbour's does, if it is shared, or behind its length at a place
abbrev pub part_stretch : Bool → Stretch → ℕ → ℕ → Stretch
part_stretch true near at n = near
part_stretch false near at n = record { start = at + 2; end = at + (2 + n) }

-- the place behind it
abbrev pub part_end : Bool → ℕ → ℕ → ℕ
part_end true at n = at
part_end false at n = at + (2 + n)

-- the place of the time of an entry whose parts begin at a place
abbrev pub time_place : ℕ → ℕ → Cell → ℕ
time_place same at e =
    part_end (nat_lt 3 same) (part_end (nat_lt 2 same) (part_end (nat_lt 1 same) (part_end (nat_lt 0 same) at (length e.key.row)) (length e.key.family)) (length e.key.qualifier)) (length e.key.visibility)

-- the outline of an entry that shares so many parts, and whose other parts begin at a place
abbrev pub outline_of : Outline → ℕ → ℕ → Cell → Outline
outline_of near same at e =
    let family = part_end (nat_lt 0 same) at (length e.key.row) in
    let qualifier = part_end (nat_lt 1 same) family (length e.key.family) in
    let visibility = part_end (nat_lt 2 same) qualifier (length e.key.qualifier) in
    let time = part_end (nat_lt 3 same) visibility (length e.key.visibility) in
    record {
      row = part_stretch (nat_lt 0 same) near.row at (length e.key.row);
      family = part_stretch (nat_lt 1 same) near.family family (length e.key.family);
      qualifier = part_stretch (nat_lt 2 same) near.qualifier qualifier (length e.key.qualifier);
      visibility = part_stretch (nat_lt 3 same) near.visibility visibility (length e.key.visibility);
      time = e.key.time;
      deleted = e.key.deleted;
      value = record { start = time + 13; end = time + (13 + length e.value) };
    }
