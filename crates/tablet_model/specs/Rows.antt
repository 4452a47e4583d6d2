-- Whole rows, and documents that have all terms.
use Rattle.std.specs.Prelude.{ℕ, ℤ, pos, Bool, not, ◌&&◌, false, List, [], ◌∷◌, map, filter}
use Rattle.std.specs.List.{list_any, list_all}
use Rattle.std.specs.Ordering.{eq_by_cmp}
use Rattle.tablet_model.specs.Cell.{Cell}
use Rattle.tablet_model.specs.Order.{bytes_cmp}
use Rattle.tablet_model.specs.Kept.{filter_beside}

-- whether two texts are equal
unfoldable pub same_bytes : List ℕ → List ℕ → Bool
same_bytes a b = eq_by_cmp bytes_cmp a b

-- whether two entries are of one row
unfoldable pub same_row : Cell → Cell → Bool
same_row a b = same_bytes a.key.row b.key.row

-- the first of its row
unfoldable pub leads_row : List Cell → Cell → Bool
leads_row before e = not (list_any (same_row e) before)

-- the time of the entries that stand for rows and documents: the greatest there is (this project's rule)
abbrev pub last_time : ℤ
last_time = pos 9223372036854775807

-- the entry that stands for the row of e; its time `last` and its empty parts are this project's rule
unfoldable pub row_entry : ℤ → (List Cell → List ℕ) → List Cell → Cell → Cell
row_entry last text list e = record {
  key = record { row = e.key.row; family = []; qualifier = []; visibility = []; time = last; deleted = false };
  value = text (filter (same_row e) list);
}

-- the whole row iterator (Accumulo): one entry for each row, whose value is a text of the row's entries
unfoldable pub whole_row : ℤ → (List Cell → List ℕ) → List Cell → List Cell
whole_row last text list = map (row_entry last text list) (filter_beside leads_row [] list)

-- the list has the document of e under a term, in the row of e (Accumulo: row = partition, family = term, qualifier = document)
unfoldable pub has_term : List Cell → Cell → List ℕ → Bool
has_term list e term = list_any (λ y. same_row e y && (same_bytes term y.key.family && same_bytes e.key.qualifier y.key.qualifier)) list

-- e stands under the first term, and its document has all the others and none of those that it is to be without
unfoldable pub is_hit : List ℕ → List (List ℕ) → List (List ℕ) → List Cell → Cell → Bool
is_hit first others without list e = same_bytes first e.key.family && (list_all (has_term list e) others && not (list_any (has_term list e) without))

-- a hit, and the first of its row and document under that term
unfoldable pub leads_hit : List ℕ → List (List ℕ) → List (List ℕ) → List Cell → List Cell → Cell → Bool
leads_hit first others without list before e = is_hit first others without list e && not (list_any (λ y. same_row e y && (same_bytes first y.key.family && same_bytes e.key.qualifier y.key.qualifier)) before)

-- the intersecting iterator (Accumulo): one entry for each document of a row that has all terms and none of the terms that it is to be without
unfoldable pub intersect : ℤ → List ℕ → List (List ℕ) → List (List ℕ) → List Cell → List Cell
intersect last first others without list = map (λ e. record {
  key = record { row = e.key.row; family = []; qualifier = e.key.qualifier; visibility = []; time = last; deleted = false };
  value = [];
}) (filter_beside (leads_hit first others without list) [] list)

-- the documents that have all terms, of which there is one at least, and none of the terms that they are to be without
unfoldable pub intersect_terms : List (List ℕ) → List (List ℕ) → List Cell → List Cell
intersect_terms [] without list = []
intersect_terms (first ∷ others) without list = intersect last_time first others without list
