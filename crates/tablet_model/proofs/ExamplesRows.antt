-- Whole rows and intersections on small lists.
use Rattle.std.proofs.Common.{◌≡◌, ℕ, pos, List, [], ◌∷◌, ◌++◌, refl, codes}
use Rattle.tablet_model.specs.Cell.{Cell}
use Rattle.tablet_model.specs.Kept.{filter_beside}
use Rattle.tablet_model.specs.Rows.{same_bytes, same_row, leads_row, row_entry, whole_row, has_term, is_hit, leads_hit, intersect}
use Rattle.tablet_model.proofs.ExampleCells.{entry}

-- a text of a row: its values, one after another
abbrev values : List Cell → List ℕ
values [] = []
values (e ∷ es) = e.value ++ values es

-- one entry for each row, under the row alone and the time given
rows_become_entries : whole_row (pos 99) values (entry (codes "r1") (codes "a") (codes "x") 2 (codes "b") ∷ entry (codes "r1") (codes "b") (codes "y") 1 (codes "a") ∷ entry (codes "r2") (codes "a") (codes "x") 3 (codes "c") ∷ []) ≡ entry (codes "r1") [] [] 99 (codes "ba") ∷ entry (codes "r2") [] [] 99 (codes "c") ∷ []
unfolding whole_row filter_beside leads_row row_entry same_row same_bytes
rows_become_entries = refl

-- a document under a term, in a partition
abbrev word : List ℕ → List ℕ → List ℕ → Cell
word partition term document = entry partition term document 1 []

abbrev words : List Cell
words = word (codes "p1") (codes "a") (codes "d1") ∷ word (codes "p1") (codes "a") (codes "d2") ∷ word (codes "p1") (codes "b") (codes "d1") ∷ word (codes "p1") (codes "b") (codes "d2") ∷ word (codes "p1") (codes "b") (codes "d4") ∷ word (codes "p1") (codes "c") (codes "d2") ∷ word (codes "p2") (codes "a") (codes "d3") ∷ word (codes "p2") (codes "a") (codes "d4") ∷ word (codes "p2") (codes "b") (codes "d3") ∷ []

-- `a` and `b` without `c`: d2 has a `c`, and d4 has its terms in two partitions
documents_have_all_terms_in_one_partition : intersect (pos 99) (codes "a") (codes "b" ∷ []) (codes "c" ∷ []) words ≡ entry (codes "p1") [] (codes "d1") 99 [] ∷ entry (codes "p2") [] (codes "d3") 99 [] ∷ []
unfolding intersect filter_beside leads_hit is_hit has_term same_row same_bytes
documents_have_all_terms_in_one_partition = refl

-- one entry for a document, of however many versions
a_document_is_found_once : intersect (pos 99) (codes "a") [] [] (entry (codes "p1") (codes "a") (codes "d1") 2 [] ∷ entry (codes "p1") (codes "a") (codes "d1") 1 [] ∷ []) ≡ entry (codes "p1") [] (codes "d1") 99 [] ∷ []
unfolding intersect filter_beside leads_hit is_hit has_term same_row same_bytes
a_document_is_found_once = refl
