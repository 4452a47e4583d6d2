-- An entry, as its parts in one run of bytes. All of this is this project's own.
use Rattle.std.specs.Prelude.{ℕ, ◌≤◌, ◌-◌, ◌++◌, List, take, drop, length}
use Rattle.std.specs.Arc.{arc_value}
use Rattle.tablet_model.specs.Limits.{max_part}
use Rattle.tablet_model.specs.Cell.{Cell}
use Rattle.cell_key.specs.declared.entry.Entry.TheInside.{Inside}

-- the parts of an entry, one behind the other
abbrev pub joined_parts : Cell → List ℕ
joined_parts e = (((e.key.row ++ e.key.family) ++ e.key.qualifier) ++ e.key.visibility) ++ e.value

-- the bytes from one place up to another
abbrev pub between : ℕ → ℕ → List ℕ → List ℕ
between from to bytes = take (to - from) (drop from bytes)

-- the entry whose parts end at these places; the value is what is left
abbrev pub packed_cell : Inside → Cell
packed_cell b = record {
  key = record {
    row = take b.row (arc_value b.bytes).items;
    family = between b.row b.family (arc_value b.bytes).items;
    qualifier = between b.family b.qualifier (arc_value b.bytes).items;
    visibility = between b.qualifier b.visibility (arc_value b.bytes).items;
    time = b.time;
    deleted = b.deleted;
  };
  value = drop b.visibility (arc_value b.bytes).items;
}

-- the ends are in order, and the parts within bounds
pub record IsPacked (b : Inside) : Type 0 where
  pub order_row : b.row ≤ b.family
  pub order_family : b.family ≤ b.qualifier
  pub order_qualifier : b.qualifier ≤ b.visibility
  pub order_visibility : b.visibility ≤ length (arc_value b.bytes).items
  pub row_some : 1 ≤ b.row
  pub row_bound : b.row ≤ max_part
  pub family_bound : b.family - b.row ≤ max_part
  pub qualifier_bound : b.qualifier - b.family ≤ max_part
  pub visibility_bound : b.visibility - b.qualifier ≤ max_part
