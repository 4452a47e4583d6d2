-- Numbers in script lines, and the names of sessions, jobs and files. All of this is this project's own.
use Rattle.std.specs.Prelude.{ℕ, Bool, ◌&&◌, ◌==◌, nat_le, if◌then◌else◌, List, [], ◌∷◌, length, Option, Some, None}
use Rattle.std.specs.Char.{is_ascii_digit}
use Rattle.std.specs.List.{list_all}
use Rattle.std.specs.Str.Parse.{digits_value}
use Rattle.script_text.specs.Reading.{◌>>=◌}
use Rattle.script_text.specs.Code.{letter_f, letter_j, letter_s}

-- 1 up to so many decimal digits
abbrev pub are_digits : ℕ → List ℕ → Bool
are_digits most text = (nat_le 1 (length text) && nat_le (length text) most) && list_all is_ascii_digit text

-- a number of 1 to 10 decimal digits, which may begin with zeros
unfoldable pub number_of : List ℕ → Option ℕ
number_of text = if are_digits 10 text then Some (digits_value 10 text) else None

-- a number from 1 up to a greatest one
abbrev pub number_to : ℕ → List ℕ → Option ℕ
number_to most text = do
  n ← number_of text
  if nat_le 1 n && nat_le n most then Some n else None

-- a letter and a number
abbrev pub letter_and_number : ℕ → ℕ → List ℕ → Option ℕ
letter_and_number letter most [] = None
letter_and_number letter most (b ∷ bs) = if b == letter then number_to most bs else None

-- sN, a session from 1 to 64
abbrev pub session_of : List ℕ → Option ℕ
session_of word = letter_and_number letter_s 64 word

-- jN, a job from 1 to 999,999
abbrev pub job_of : List ℕ → Option ℕ
job_of word = letter_and_number letter_j 999999 word

-- fN, a file from 1 to 9,999,999,999
abbrev pub file_of : List ℕ → Option ℕ
file_of word = letter_and_number letter_f 9999999999 word
