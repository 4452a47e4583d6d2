-- Borrowed keys and entries as the records of the model. All of this is this project's own.
use Rattle.tablet_model.specs.Cell.{CellKey, Cell}
use Rattle.cell_key.specs.declared.key_ref.KeyRef.{KeyRef}
use Rattle.cell_key.specs.declared.key_ref.EntryRef.{EntryRef}

-- what a borrowed key says
abbrev pub key_of : KeyRef → CellKey
key_of k = record {
  row = k.row.now;
  family = k.family.now;
  qualifier = k.qualifier.now;
  visibility = k.visibility.now;
  time = k.time;
  deleted = k.deleted;
}

-- what a borrowed entry says
abbrev pub cell_of : EntryRef → Cell
cell_of e = record { key = key_of e.key; value = e.value.now }
