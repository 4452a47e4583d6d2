-- Which keys and families a scan takes, as words of a line. All of this is this project's own.
use Rattle.std.specs.Prelude.{ℕ, ◌-◌, Bool, true, false, ◌==◌, ◌||◌, nat_le, nat_lt, slice_index, if◌then◌else◌, List, [], ◌∷◌, length, take, drop, Option, Some, None, is_some, codes}
use Rattle.std.specs.List.{slice_split}
use Rattle.std.specs.Str.{bytes_eq}
use Rattle.memchr.specs.Find.{is_byte}
use Rattle.tablet_model.specs.Cuts.{Cut, Everything, BeforeRow, BehindRow, Span}
use Rattle.script_text.specs.Code.{comma, left_bracket, left_parenthesis, right_bracket, right_parenthesis, star}
use Rattle.script_text.specs.Reading.{◌>>=◌}
use Rattle.script_text.specs.Words.{split_once, text_of}

-- an escaped text of at most 1,024 bytes
unfoldable pub short_text : List ℕ → Option (List ℕ)
short_text part = do
  bytes ← text_of part
  if nat_le (length bytes) 1024 then Some bytes else None

-- a row, which may be missing
unfoldable pub optional_row : List ℕ → Option (Option (List ℕ))
optional_row [] = Some None
optional_row (b ∷ bs) = do
  row ← short_text (b ∷ bs)
  Some (Some row)

-- whether a bracket takes its row: [ and ] do, ( and ) do not
abbrev pub opening : ℕ → Option Bool
opening b = if b == left_bracket then Some true else if b == left_parenthesis then Some false else None

abbrev pub closing : ℕ → Option Bool
closing b = if b == right_bracket then Some true else if b == right_parenthesis then Some false else None

-- from a row on, or behind it; a missing row leaves the side open
abbrev pub start_cut : Bool → Option (List ℕ) → Cut
start_cut takes None = Everything
start_cut true (Some row) = BeforeRow row
start_cut false (Some row) = BehindRow row

-- up to a row with it, or before it
abbrev pub end_cut : Bool → Option (List ℕ) → Cut
end_cut takes None = Everything
end_cut true (Some row) = BehindRow row
end_cut false (Some row) = BeforeRow row

abbrev pub span_between : Bool → Option (List ℕ) → Bool → Option (List ℕ) → Span
span_between takes_first first takes_last last = record { start = start_cut takes_first first; end = end_cut takes_last last }

-- all keys
abbrev pub all_keys : Span
all_keys = record { start = Everything; end = Everything }

-- the rows between brackets, cut at the first comma
unfoldable pub rows_between : Bool → Bool → List ℕ → Option Span
rows_between takes_first takes_last text = do
  rows ← split_once comma text
  first ← optional_row rows.0
  last ← optional_row rows.1
  Some (span_between takes_first first takes_last last)

-- [ROW,ROW] and its kin: the first and the last byte are the brackets
unfoldable pub range_in_brackets : List ℕ → Option Span
range_in_brackets word = if nat_lt (length word) 2 then None else do
  takes_first ← opening (slice_index word 0)
  takes_last ← closing (slice_index word (length word - 1))
  rows_between takes_first takes_last (take (length word - 2) (drop 1 word))

-- RANGE: * for all keys, or rows in brackets
unfoldable pub range_of : List ℕ → Option Span
range_of word = if bytes_eq word (codes "*") then Some all_keys else range_in_brackets word

-- each part is a name
abbrev pub names_of : List (List ℕ) → Option (List (List ℕ))
names_of [] = Some []
names_of (part ∷ parts) = do
  name ← short_text part
  names ← names_of parts
  Some (name ∷ names)

-- 1 to 64 families, cut at each comma
unfoldable pub families_of : List ℕ → Option (List (List ℕ))
families_of text = do
  names ← names_of (slice_split (is_byte comma) text)
  if nat_le (length names) 64 then Some names else None

-- whether a word is meant as a range
abbrev pub is_range : List ℕ → Bool
is_range [] = false
is_range (b ∷ bs) = b == star || (b == left_bracket || b == left_parenthesis)

-- what stands behind `fams=` in a word that begins so
abbrev pub behind_fams : List ℕ → Option (List ℕ)
behind_fams word = if bytes_eq (take 5 word) (codes "fams=") then Some (drop 5 word) else None

-- the first word, if it is meant as a range, and the words behind it
abbrev pub range_word : List (List ℕ) → Option (List ℕ)
range_word [] = None
range_word (word ∷ words) = if is_range word then Some word else None

abbrev pub behind_range : List (List ℕ) → List (List ℕ)
behind_range [] = []
behind_range (word ∷ words) = if is_range word then words else word ∷ words

-- the families' text of the first word, if it is meant as families, and the words behind it
abbrev pub families_text : List (List ℕ) → Option (List ℕ)
families_text [] = None
families_text (word ∷ words) = behind_fams word

abbrev pub behind_families : List (List ℕ) → List (List ℕ)
behind_families [] = []
behind_families (word ∷ words) = if is_some (behind_fams word) then words else word ∷ words

-- the range of a word, all keys where there is none
abbrev pub range_in : Option (List ℕ) → Option Span
range_in None = Some all_keys
range_in (Some word) = range_of word

-- the families of a text, all where there is none
abbrev pub families_in : Option (List ℕ) → Option (Option (List (List ℕ)))
families_in None = Some None
families_in (Some text) = do
  names ← families_of text
  Some (Some names)
