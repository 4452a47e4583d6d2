-- Bytes spelled in visible ASCII characters, and read again. All of this is this project's own.
use Rattle.std.specs.Prelude.{ℕ, zero, suc, ◌+◌, ◌*◌, Bool, ◌&&◌, not, ◌==◌, nat_le, if◌then◌else◌, List, [], ◌∷◌, ◌++◌, codes, Option, Some, None, option_and_then, Result, Ok, Err}
use Rattle.std.specs.List.{flat_map, list_any}
use Rattle.hex.specs.Hex.{encode_lower, hex_digit_value}

-- a visible ASCII character: ! to ~
abbrev pub is_printable : ℕ → Bool
is_printable b = nat_le 33 b && nat_le b 126

-- a byte that is spelled as itself: visible, and no delimiter of the texts
abbrev pub is_kept : ℕ → Bool
is_kept b = is_printable b && not (list_any (λ c. c == b) (codes "\\:=,()[]"))

-- the spelling of a byte: itself, or \x and two lower-case hexadecimal digits
abbrev pub escape_byte : ℕ → List ℕ
escape_byte b = if is_kept b then b ∷ [] else (codes "\\x" ++ encode_lower (b ∷ []))

-- the spelling of some bytes
abbrev pub escape_of : List ℕ → List ℕ
escape_of = flat_map escape_byte

-- the byte of two hexadecimal digits, of either case
abbrev pub pair_byte : ℕ → ℕ → Option ℕ
pair_byte h l =
    option_and_then (λ x. option_and_then (λ y. Some (x * 16 + y)) (hex_digit_value l)) (hex_digit_value h)

-- a byte that is read as itself: no blank, no control character and not 127 (delete)
abbrev pub is_read : ℕ → Bool
is_read b = nat_le 33 b && not (b == 127)

-- the byte that is spelled behind a backslash: by an x (120) and two digits
abbrev pub behind_backslash : List ℕ → Option ℕ
behind_backslash (x ∷ h ∷ l ∷ rest) = if x == 120 then pair_byte h l else None
behind_backslash _ = None

-- a byte whose spelling has n more bytes
abbrev pub with_more : ℕ → Option ℕ → Option (ℕ × ℕ)
with_more n None = None
with_more n (Some b) = Some (b, n)

-- the byte whose spelling stands first, and how many more bytes the spelling has; 92 is the backslash
abbrev pub first_spelling : List ℕ → Option (ℕ × ℕ)
first_spelling [] = None
first_spelling (b ∷ bs) =
    if b == 92 then with_more 3 (behind_backslash bs)
    else (if is_read b then Some (b, 0) else None)

-- a byte in front of what is read
abbrev pub put : ℕ → Result (List ℕ) ℕ → Result (List ℕ) ℕ
put b (Ok bs) = Ok (b ∷ bs)
put b (Err at) = Err at

-- a first byte in front of what the rest spells, or a fault at the place where nothing is spelled
abbrev pub read_on : ℕ → Option (ℕ × ℕ) → (ℕ → Result (List ℕ) ℕ) → Result (List ℕ) ℕ
read_on at None rest = Err at
read_on at (Some s) rest = put s.0 (rest s.1)

-- what a text spells whose first byte has the place `at`, and whose first `skip` bytes belong to the spelling before
abbrev pub unescape_from : List ℕ → ℕ → ℕ → Result (List ℕ) ℕ
unescape_from [] at skip = Ok []
unescape_from (b ∷ bs) at (suc skip) = unescape_from bs (at + 1) skip
unescape_from (b ∷ bs) at zero = read_on at (first_spelling (b ∷ bs)) (unescape_from bs (at + 1))

-- the bytes that a text spells, or the place of the first byte that no spelling allows, counted from 0
abbrev pub unescape_of : List ℕ → Result (List ℕ) ℕ
unescape_of text = unescape_from text 0 0
