-- Delete markers: what they hide, and what a compaction that keeps them drops.
use Rattle.std.specs.Prelude.{Bool, not, ◌&&◌, List, [], filter}
use Rattle.std.specs.List.{list_any}
use Rattle.std.specs.Ordering.{int_cmp, is_gt}
use Rattle.tablet_model.specs.Cell.{Cell}
use Rattle.tablet_model.specs.Order.{same_column}
use Rattle.tablet_model.specs.Kept.{filter_beside}

-- a marker of the column of e
unfoldable pub marker_beside : Cell → Cell → Bool
marker_beside e m = m.key.deleted && same_column e m

-- an entry of the column of e that is no marker
unfoldable pub put_beside : Cell → Cell → Bool
put_beside e p = not p.key.deleted && same_column e p

-- a marker that hides e (Accumulo): of its column, at a time at least its own
unfoldable pub hides : Cell → Cell → Bool
hides e m = marker_beside e m && not (is_gt (int_cmp e.key.time m.key.time))

-- e is no marker, and no marker of the list hides it
unfoldable pub is_live : List Cell → Cell → Bool
is_live list e = not e.key.deleted && not (list_any (hides e) list)

-- what a scan and a full major compaction see of a list (Accumulo): its live entries
unfoldable pub live : List Cell → List Cell
live list = filter (is_live list) list

-- no marker of its column stands before it
unfoldable pub is_unmarked : List Cell → Cell → Bool
is_unmarked before e = not (list_any (marker_beside e) before)

-- what other compactions see of a list (this project's rule): of each column the newest marker and what sorts before it
unfoldable pub mark : List Cell → List Cell
mark list = filter_beside is_unmarked [] list

-- the entries that the markers of another list do not hide
unfoldable pub clear_of : List Cell → List Cell → List Cell
clear_of hiding list = filter (λ e. not (list_any (hides e) hiding)) list
