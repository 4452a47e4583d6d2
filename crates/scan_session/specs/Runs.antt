-- A run that is taken out of a source, entry by entry. All of this is this project's own.
use Rattle.std.specs.Prelude.{ℕ, Bool, false, not, ◌&&◌, List, [], ◌∷◌, length, nat_le, Option, option_map, unwrap_or}
use Rattle.tablet_model.specs.Cell.{Cell}
use Rattle.tablet_model.specs.Places.{Place}
use Rattle.cell_key.specs.Ranges.{place_of}
use Rattle.cell_key.specs.declared.range.Position.{Position}
use Rattle.scan_session.specs.Takes.{Mode, together, last_of}

-- whether a run of m entries may end before an entry
unfoldable pub may_end : Mode → ℕ → List Cell → Cell → Bool
may_end mode m [] next = false
may_end mode m (e ∷ es) next = nat_le m (length (e ∷ es)) && not (together mode (last_of e es) next)

-- the place that a position is, or where the reader stood, where there is none
abbrev pub place_behind : Option Position → Place → Place
place_behind position old = unwrap_or (option_map place_of position) old
