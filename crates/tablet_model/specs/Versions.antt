-- The newest versions of each column.
use Rattle.std.specs.Prelude.{ℕ, Bool, ◌||◌, List, [], count_by, nat_lt}
use Rattle.tablet_model.specs.Cell.{Cell}
use Rattle.tablet_model.specs.Markers.{put_beside}
use Rattle.tablet_model.specs.Kept.{filter_beside}

-- a marker, or one of the first n of its column that are no markers
unfoldable pub is_recent : ℕ → List Cell → Cell → Bool
is_recent n before e = e.key.deleted || nat_lt (count_by (put_beside e) before) n

-- the versioning iterator (Accumulo): at most n versions of each column; that markers stay uncounted is this project's rule
unfoldable pub versions : ℕ → List Cell → List Cell
versions n list = filter_beside (is_recent n) [] list
