-- The bytes that lines and their grammar speak of, by name.
use Rattle.std.specs.Prelude.{ℕ}

-- \t
abbrev pub tab : ℕ
tab = 9

-- \n
abbrev pub newline : ℕ
newline = 10

-- \r
abbrev pub carriage_return : ℕ
carriage_return = 13

-- a space
abbrev pub space : ℕ
space = 32

-- #
abbrev pub hash : ℕ
hash = 35

-- +
abbrev pub plus : ℕ
plus = 43

-- -
abbrev pub minus : ℕ
minus = 45

-- :
abbrev pub colon : ℕ
colon = 58

-- =
abbrev pub equals : ℕ
equals = 61

-- ^
abbrev pub caret : ℕ
caret = 94

-- (
abbrev pub left_parenthesis : ℕ
left_parenthesis = 40

-- )
abbrev pub right_parenthesis : ℕ
right_parenthesis = 41

-- *
abbrev pub star : ℕ
star = 42

-- ,
abbrev pub comma : ℕ
comma = 44

-- [
abbrev pub left_bracket : ℕ
left_bracket = 91

-- ]
abbrev pub right_bracket : ℕ
right_bracket = 93

abbrev pub letter_f : ℕ
letter_f = 102

abbrev pub letter_j : ℕ
letter_j = 106

abbrev pub letter_s : ℕ
letter_s = 115
