-- The laws of the orders, of sums, of markers and of histories, as statements: this project's own theorems.
use Rattle.std.specs.Prelude.{◌≡◌, ◌++◌, ◌∷◌, Bool, true, false, not, List, [], filter, pos, ◌+◌, length}
use Rattle.std.specs.declared.cmp.Ordering.{Ordering}
use Rattle.std.specs.Cmp.{IsTotalOrder}
use Rattle.tablet_model.specs.Cell.{CellKey, Cell}
use Rattle.tablet_model.specs.Order.{key_cmp, above, same_column}
use Rattle.tablet_model.specs.Sorted.{Ascends, IsExactOrder}
use Rattle.tablet_model.specs.Sum.{sum_of, sum_all}
use Rattle.tablet_model.specs.Markers.{live, mark}
use Rattle.tablet_model.specs.History.{RowChange, entries_of, history_entries}

-- keys are totally ordered
abbrev pub KeysAreOrdered : Type 0
KeysAreOrdered = IsTotalOrder key_cmp

-- keys of one place in the order are equal
abbrev pub TiedKeysAreEqual : Type 0
TiedKeysAreEqual = (a b : CellKey) → key_cmp a b ≡ Ordering.Equal → a ≡ b

-- entries are ordered, and any two are told apart
abbrev pub CellsAreOrdered : Type 0
CellsAreOrdered = IsExactOrder above

-- the entries of a column stand together
abbrev pub ColumnsStandTogether : Type 0
ColumnsStandTogether = (c e y : Cell) → above c e ≡ false → above e y ≡ false → same_column c y ≡ true → same_column c e ≡ true

-- the parts of a sum may be exchanged
abbrev pub SumsCommute : Type 0
SumsCommute = (a x : List Cell) → sum_of a x ≡ sum_of x a

-- the parts of a sum may be grouped in any way
abbrev pub SumsRegroup : Type 0
SumsRegroup = (a b x : List Cell) → sum_of (sum_of a b) x ≡ sum_of a (sum_of b x)

-- a sum is in order
abbrev pub SumsAscend : Type 0
SumsAscend = (a x : List Cell) → Ascends above (sum_of a x)

-- a sum with nothing is the list, if it is in order
abbrev pub NothingAddsNothing : Type 0
NothingAddsNothing = (a : List Cell) → Ascends above a → sum_of a [] ≡ a

-- a filter of a sum filters its parts
abbrev pub FiltersSplit : Type 0
FiltersSplit = (p : Cell → Bool) (a x : List Cell) → filter p (sum_of a x) ≡ sum_of (filter p a) (filter p x)

-- one list of many may be taken out
abbrev pub SumsTakeOneOut : Type 0
SumsTakeOneOut = (before : List (List Cell)) (a : List Cell) (behind : List (List Cell)) → sum_all (before ++ a ∷ behind) ≡ sum_of a (sum_all (before ++ behind))

-- what lives is what compactions keep, without the markers
abbrev pub LiveIsMarkedWithoutMarkers : Type 0
LiveIsMarkedWithoutMarkers = (list : List Cell) → Ascends above list → live list ≡ filter (λ e. not e.key.deleted) (mark list)

-- a history's entries are in order
abbrev pub HistoriesAscend : Type 0
HistoriesAscend = (h : List RowChange) → Ascends above (history_entries h)

-- one mutation more adds its entries, with the next number as their time
abbrev pub HistoriesGrow : Type 0
HistoriesGrow = (h : List RowChange) (m : RowChange) → history_entries (h ++ m ∷ []) ≡ sum_of (history_entries h) (entries_of (pos (length h + 1)) m)
