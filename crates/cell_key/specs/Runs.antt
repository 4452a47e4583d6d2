-- Bytes that are copied in runs, and those between them. All of this is this project's own.
use Rattle.std.specs.Prelude.{ℕ, Bool, ◌&&◌, not, ◌==◌, List, [], ◌∷◌, ◌++◌, codes}
use Rattle.std.specs.List.{prefix_len}
use Rattle.hex.specs.Hex.{encode_lower}
use Rattle.cell_key.specs.Escape.{is_kept, is_read}

-- a byte that is read as itself, and no backslash (92)
abbrev pub is_plain : ℕ → Bool
is_plain b = is_read b && not (b == 92)

-- how many plain bytes stand first
abbrev pub plain_run : List ℕ → ℕ
plain_run = prefix_len is_plain

-- how many bytes stand first that are their own spellings
abbrev pub kept_run : List ℕ → ℕ
kept_run = prefix_len is_kept

-- the spelling of a byte by a backslash
abbrev pub digits_of : ℕ → List ℕ
digits_of b = codes "\\x" ++ encode_lower (b ∷ [])
