-- Entries as they are written, and the lines round them. All of this is this project's own.
use Rattle.std.specs.Prelude.{ℕ, if◌then◌else◌, List, [], ◌∷◌, ◌++◌, codes, flat_map}
use Rattle.std.specs.Fmt.{signed_decimal}
use Rattle.tablet_model.specs.Cell.{Cell}
use Rattle.cell_key.specs.Escape.{escape_of}
use Rattle.tablet_steps.specs.Texts.{number_line}

-- = and the value; a marker has no value, and - in its place
abbrev pub value_text : Cell → List ℕ
value_text e = if e.key.deleted then codes "-" else codes "=" ++ escape_of e.value

-- the line of an entry: ROW FAMILY:QUALIFIER:VISIBILITY @TIME =VALUE
unfoldable pub entry_line : Cell → List ℕ
entry_line e =
    escape_of e.key.row ++ codes " "
    ++ escape_of e.key.family ++ codes ":" ++ escape_of e.key.qualifier ++ codes ":" ++ escape_of e.key.visibility
    ++ codes " @" ++ signed_decimal e.key.time ++ codes " " ++ value_text e ++ codes "\n"

-- the lines of some entries
abbrev pub entry_lines : List Cell → List ℕ
entry_lines = flat_map entry_line

-- entries follow, of a view of the first n mutations
abbrev pub at_line : ℕ → List ℕ
at_line n = number_line (codes "at") n

-- nothing is left, in a view of the first n mutations
abbrev pub end_line : ℕ → List ℕ
end_line n = number_line (codes "end") n

-- so many entries were shown
abbrev pub count_line : ℕ → List ℕ
count_line n = number_line (codes "entries") n

-- the entries that were found in a view of the first n mutations, if there are any
unfoldable pub found_text : ℕ → List Cell → List ℕ
found_text n [] = []
found_text n (e ∷ es) = at_line n ++ entry_lines (e ∷ es)

-- the answer of a scan that found these entries in a view of the first n mutations
abbrev pub scan_text : ℕ → List Cell → List ℕ
scan_text n list = found_text n list ++ end_line n
