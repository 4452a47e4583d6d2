-- What a stage counts and keeps. A version is an entry that is no marker. All of this is this project's own.
use Rattle.std.specs.Prelude.{ℕ, ◌+◌, ◌||◌, ◌&&◌, not, Bool, cond, List, Some, nat_lt}
use Rattle.tablet_model.specs.Cell.{Cell, Column, column_of}
use Rattle.tablet_model.specs.Columns.{is_column}
use Rattle.tablet_model.specs.Versions.{versions}
use Rattle.versioning.specs.declared.version_stage.VersionStage.{VersionStage}

-- the most versions of a column that it keeps
abbrev pub most_in : VersionStage → ℕ
most_in s = s.max

-- what it makes of a list
abbrev pub version_made : VersionStage → List Cell → List Cell
version_made s = versions s.max

-- how many versions of a column were counted
abbrev pub counted_of : VersionStage → Column → ℕ
counted_of s d = cond (is_column s.column d) s.counted 0

-- whether an entry is kept: a marker, or a version before which fewer than the most were counted
abbrev pub keeps : VersionStage → Cell → Bool
keeps s e = e.key.deleted || nat_lt (counted_of s (column_of e.key)) s.max

-- behind an entry: a version that is kept is counted
abbrev pub after_entry : VersionStage → Cell → VersionStage
after_entry s e =
    cond (not e.key.deleted && nat_lt (counted_of s (column_of e.key)) s.max)
    (record s { column = Some (column_of e.key); counted = counted_of s (column_of e.key) + 1 }) s

-- before a list
abbrev pub without_count : VersionStage → VersionStage
without_count s = record s { counted = 0 }
