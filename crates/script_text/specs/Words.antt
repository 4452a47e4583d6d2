-- Words of a line, and parts of a word. All of this is this project's own.
use Rattle.std.specs.Prelude.{ℕ, ◌+◌, Bool, false, true, not, ◌||◌, ◌==◌, List, [], ◌∷◌, take, drop, filter, position, Option, option_map}
use Rattle.std.specs.List.{slice_split}
use Rattle.std.specs.Result.{result_ok}
use Rattle.memchr.specs.Find.{is_byte}
use Rattle.cell_key.specs.Escape.{unescape_of}
use Rattle.script_text.specs.Code.{space, tab}

abbrev pub is_blank : ℕ → Bool
is_blank b = b == space || b == tab

abbrev pub is_empty : List ℕ → Bool
is_empty [] = true
is_empty (b ∷ bs) = false

-- the words of a line: what stands between runs of blanks
abbrev pub words_of : List ℕ → List (List ℕ)
words_of line = filter (λ word. not (is_empty word)) (slice_split is_blank line)

-- what stands before the first such byte, and what stands behind it
abbrev pub split_once : ℕ → List ℕ → Option (List ℕ × List ℕ)
split_once b text = option_map (λ k. (take k text, drop (k + 1) text)) (position (is_byte b) text)

-- the bytes that a part spells
abbrev pub text_of : List ℕ → Option (List ℕ)
text_of part = result_ok (unescape_of part)
