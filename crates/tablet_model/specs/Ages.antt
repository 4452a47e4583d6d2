-- Which entries are newer than which. Times count only within a column, and only of plain entries, whose times the tablet gave
-- (this project's rule); the other columns have times from clients, and no markers.
use Rattle.std.specs.Prelude.{◌≡◌, ◌⊎◌, Bool, true, List}
use Rattle.std.specs.declared.cmp.Ordering.{Ordering}
use Rattle.std.specs.Ordering.{int_cmp}
use Rattle.std.specs.List.{AllByRecursion}
use Rattle.tablet_model.specs.Cell.{Cell}
use Rattle.tablet_model.specs.Order.{same_column}

-- a is newer than b, if they are of one column
abbrev pub IsNewer : Cell → Cell → Type 0
IsNewer a b = same_column a b ≡ true → int_cmp b.key.time a.key.time ≡ Ordering.Less

-- each plain entry of x is newer than each of its column in a
abbrev pub AreNewer : (Cell → Bool) → List Cell → List Cell → Type 0
AreNewer plain x a = AllByRecursion (λ e. plain e ≡ true → AllByRecursion (IsNewer e) a) x

-- each marker is plain
abbrev pub HasPlainMarkers : (Cell → Bool) → List Cell → Type 0
HasPlainMarkers plain list = AllByRecursion (λ e. e.key.deleted ≡ true → plain e ≡ true) list

-- a marker is newer than all plain entries of its column in a list, or older than all
abbrev pub IsApart : (Cell → Bool) → List Cell → Cell → Type 0
IsApart plain a m =
    AllByRecursion (λ e. plain e ≡ true → IsNewer m e) a ⊎ AllByRecursion (λ e. plain e ≡ true → IsNewer e m) a

-- each marker of x is newer than all plain entries of its column in a list, or older than all
abbrev pub AreApart : (Cell → Bool) → List Cell → List Cell → Type 0
AreApart plain x a = AllByRecursion (λ m. m.key.deleted ≡ true → IsApart plain a m) x
