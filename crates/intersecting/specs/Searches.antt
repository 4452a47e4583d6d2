-- Places in a search for documents, which goes up by row and by document. All of this is this project's own.
use Rattle.std.specs.Prelude.{◌≡◌, ℕ, ◌+◌, ◌<◌, pos, Bool, true, false, ◌&&◌, cond, List, [], ◌∷◌, length, filter, Option, Some, None}
use Rattle.std.specs.List.{list_all, list_any}
use Rattle.std.specs.declared.cmp.Ordering.{Ordering}
use Rattle.std.specs.Ordering.{ordering_then, is_gt, is_ge}
use Rattle.tablet_model.specs.Cell.{Cell, CellKey, Column}
use Rattle.tablet_model.specs.Columns.{with_time}
use Rattle.tablet_model.specs.Cuts.{Cut, Everything, Before, Behind, BeforeRow, BehindRow, is_behind}
use Rattle.tablet_model.specs.Order.{bytes_cmp}
use Rattle.tablet_model.specs.Rows.{same_bytes, has_term, last_time}
use Rattle.intersecting.specs.Documents.{matches}
use Rattle.intersecting.specs.declared.asking.Step.{Step}
use Rattle.intersecting.specs.declared.asking.Step.TheVariants.{Here, Ahead, Nowhere}
use Rattle.intersecting.specs.declared.searching.Round.{Round}
use Rattle.intersecting.specs.declared.searching.Round.TheVariants.{Hit, On, Row}

-- by row, then by document
unfoldable pub document_cmp : CellKey → CellKey → Ordering
document_cmp a b = ordering_then (bytes_cmp a.row b.row) (bytes_cmp a.qualifier b.qualifier)

-- by row, term and document
unfoldable pub index_cmp : CellKey → CellKey → Ordering
index_cmp a b = ordering_then (ordering_then (bytes_cmp a.row b.row) (bytes_cmp a.family b.family)) (bytes_cmp a.qualifier b.qualifier)

-- the first key that the document of an entry can have under a term
abbrev pub document_start : Cell → List ℕ → CellKey
document_start e term = record { row = e.key.row; family = term; qualifier = e.key.qualifier; visibility = []; time = last_time; deleted = true }

-- a kept column, as an entry of its document
abbrev pub place : Option Column → Cell
place None = record { key = record { row = []; family = []; qualifier = []; visibility = []; time = pos 0; deleted = false }; value = [] }
place (Some c) = record { key = with_time c (pos 0) false; value = [] }

-- whether what compares so with a place lies behind it, or from it on
abbrev pub reaches : Bool → Ordering → Bool
reaches true o = is_gt o
reaches false o = is_ge o

-- whether a document lies behind that of a place, or from it on
unfoldable pub lies_from : Bool → Cell → Cell → Bool
lies_from behind p d = reaches behind (document_cmp d.key p.key)

-- whether a document lies in a later row
unfoldable pub in_later_row : Cell → Cell → Bool
in_later_row p d = is_gt (bytes_cmp d.key.row p.key.row)

-- the entries behind a document under a term, or from it on
unfoldable pub under : Bool → Cell → List ℕ → List Cell → List Cell
under behind p term list = filter (λ y. reaches behind (index_cmp y.key (document_start p term))) list

-- whether an entry is of the document of another under a term
abbrev pub is_under : Cell → List ℕ → Cell → Bool
is_under p term y = same_bytes p.key.row y.key.row && (same_bytes term y.key.family && same_bytes p.key.qualifier y.key.qualifier)

-- where an entry stands, seen from a document and a term
unfoldable pub step_to : Cell → List ℕ → Option Cell → Step
step_to p term None = Nowhere
step_to p term (Some e) = cond (same_bytes e.key.row p.key.row && same_bytes e.key.family term)
    (cond (same_bytes e.key.qualifier p.key.qualifier) Here Ahead)
    Nowhere

-- whether a step shows a document of the row
abbrev pub shows : Step → Bool
shows Here = true
shows Ahead = true
shows Nowhere = false

-- whether a step moves the document on
abbrev pub moves : Step → Bool
moves Here = false
moves Ahead = true
moves Nowhere = false

-- whether a document is left after a step that came to a place
abbrev pub left_by : Step → Cell → Cell → Bool
left_by Here p d = lies_from false p d
left_by Ahead p d = lies_from false p d
left_by Nowhere p d = in_later_row p d

-- a move to the first document that the row of p has under a term, behind p or from it on: it came to n
pub record IsAdvance (list : List Cell) (term : List ℕ) (behind : Bool) (p n : Cell) (step : Step) : Type 0 where
  pub row : n.key.row ≡ p.key.row
  pub stays : moves step ≡ false → n ≡ p
  pub forward : moves step ≡ true → lies_from true p n ≡ true
  pub reached : shows step ≡ true → lies_from behind p n ≡ true
  pub shown : shows step ≡ true → has_term list n term ≡ true
  pub left : (d : Cell) → has_term list d term ≡ true → lies_from behind p d ≡ left_by step n d

-- a move to where the sources of all terms show one document, or to where they were seen to be apart
pub record IsAgreement (list : List Cell) (terms : List (List ℕ)) (p n : Cell) (step : Step) : Type 0 where
  pub row : n.key.row ≡ p.key.row
  pub here : step ≡ Here → (n ≡ p) × (list_all (has_term list n) terms ≡ true)
  pub forward : step ≡ Ahead → lies_from true p n ≡ true
  pub left : (d : Cell) → list_all (has_term list d) terms ≡ true → lies_from false p d ≡ left_by step n d

-- whether a document is left after a round that came to a place
abbrev pub left_at : Round → Cell → Cell → Bool
left_at Hit n d = lies_from false n d
left_at (On behind) n d = lies_from behind n d
left_at Row n d = in_later_row n d

-- how much of a list a search can still come to: the entries of documents from a place on, and those of later rows
unfoldable pub places_left : Bool → Cell → List Cell → ℕ
places_left behind p list = length (filter (lies_from behind p) list) + length (filter (in_later_row p) list)

-- a round of a search from p on, which came to n: no document that matches was left out, and a further round has less before it
pub record IsRound (list : List Cell) (terms without : List (List ℕ)) (behind : Bool) (p n : Cell) (round : Round) : Type 0 where
  pub row : n.key.row ≡ p.key.row
  pub hit : round ≡ Hit → matches terms without list n ≡ true
  pub left : (d : Cell) → matches terms without list d ≡ true → lies_from behind p d ≡ left_at round n d
  pub closer : (next : Bool) → round ≡ On next → places_left next n list < places_left behind p list

-- a key among the documents of a row, which have no family
abbrev pub without_family : List ℕ → CellKey → Option CellKey
without_family [] k = Some k
without_family (x ∷ xs) k = None

-- the key at which a range begins, where it begins among the documents of a row
abbrev pub among : Cut → Option CellKey
among Everything = None
among (Before k) = without_family k.family k
among (Behind k) = without_family k.family k
among (BeforeRow r) = None
among (BehindRow r) = None

-- whether a document is left behind a place or from it on, or none is
abbrev pub left_from : Option Bool → Cell → Cell → Bool
left_from None p d = false
left_from (Some behind) p d = lies_from behind p d

-- whether a cut lies at the border of a row
abbrev pub is_at_row : Cut → Bool
is_at_row Everything = true
is_at_row (Before k) = false
is_at_row (Behind k) = false
is_at_row (BeforeRow r) = true
is_at_row (BehindRow r) = true

-- a move to the first row behind a cut: it came to the beginning of the row of n, if there is one
pub record IsRowStart (list : List Cell) (cut : Cut) (n : Cell) (found : Bool) : Type 0 where
  pub some : found ≡ true → list_any (λ y. same_bytes n.key.row y.key.row) list ≡ true
  pub behind : found ≡ true → is_behind cut n.key ≡ true
  pub left : (d : Cell) (term : List ℕ) → has_term list d term ≡ true → is_behind cut d.key ≡ (found && lies_from false n d)

-- a search from p on: it came to n, the first document that matches, if there is one
pub record IsSearch (list : List Cell) (terms without : List (List ℕ)) (behind : Bool) (p n : Cell) (found : Bool) : Type 0 where
  pub hit : found ≡ true → matches terms without list n ≡ true
  pub left : (d : Cell) → matches terms without list d ≡ true → lies_from behind p d ≡ (found && lies_from false n d)
