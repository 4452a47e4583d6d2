-- Documents of a list of entries: in an index a row is a partition, a family is a term and a qualifier is a document (Accumulo's
-- `IntersectingIterator`).
use Rattle.std.specs.Prelude.{ℕ, Bool, false, not, ◌&&◌, List, []}
use Rattle.std.specs.List.{list_all, list_any}
use Rattle.tablet_model.specs.Cell.{Cell, CellKey}
use Rattle.tablet_model.specs.Rows.{has_term, last_time}

-- the key of the entry that stands for the document of a key; its empty parts are this project's rule
abbrev pub document_key : CellKey → CellKey
document_key k = record { row = k.row; family = []; qualifier = k.qualifier; visibility = []; time = last_time; deleted = false }

-- the entry that stands for the document of an entry
abbrev pub document_entry : Cell → Cell
document_entry e = record { key = document_key e.key; value = [] }

-- whether a list has the document of an entry under all terms, and under none of those that it is to be without
unfoldable pub matches : List (List ℕ) → List (List ℕ) → List Cell → Cell → Bool
matches terms without list e = list_all (has_term list e) terms && not (list_any (has_term list e) without)
