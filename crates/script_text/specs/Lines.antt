-- How an input is cut into lines, and into a configuration and a script. All of this is this project's own.
use Rattle.std.specs.Prelude.{ℕ, Bool, List, [], ◌∷◌, ◌==◌, if◌then◌else◌, map, codes}
use Rattle.std.specs.List.{concat, onto_first, before_first, after_first}
use Rattle.std.specs.Str.{bytes_eq}
use Rattle.std.specs.Io.BufRead.{strip_last}
use Rattle.script_text.specs.Code.{newline, carriage_return}

-- the lines, each with the newline that ends it: joined, they are the text
abbrev pub raw_lines : List ℕ → List (List ℕ)
raw_lines [] = []
raw_lines (b ∷ bs) = if b == newline then (b ∷ []) ∷ raw_lines bs else onto_first b (raw_lines bs)

-- a line without its newline, and then without one carriage return at its end
abbrev pub content : List ℕ → List ℕ
content line = strip_last carriage_return (strip_last newline line)

-- the lines of a text
abbrev pub lines_of : List ℕ → List (List ℕ)
lines_of text = map content (raw_lines text)

-- a line that is exactly %%
abbrev pub is_separator : List ℕ → Bool
is_separator line = bytes_eq (content line) (codes "%%")

-- an input's configuration: the bytes before the first separator, or all
abbrev pub config_bytes : List ℕ → List ℕ
config_bytes input = concat (before_first is_separator (raw_lines input))

-- an input's script: the lines behind the first separator, or none
abbrev pub script_lines : List ℕ → List (List ℕ)
script_lines input = map content (after_first is_separator (raw_lines input))
