-- Walks: what a reader is given, piece by piece, while mutations come in. All of this is this project's own.
use Rattle.std.specs.Prelude.{◌≡◌, ℕ, ◌≤◌, false, List, [], ◌∷◌, ◌++◌, Option, Some, None, ⊤}
use Rattle.tablet_model.specs.Cell.{Cell}
use Rattle.tablet_model.specs.Places.{Place, after}
use Rattle.scan_session.specs.Takes.{Mode, together, last_of, place_after, take_together}
use Rattle.scan_session.specs.declared.piece.Piece.{Piece}

-- some entries stand before others, and the last of them may be parted from the next
abbrev pub EndsWell : Mode → List Cell → List Cell → Type 0
EndsWell mode [] rest = ⊥
EndsWell mode (e ∷ es) [] = ⊤
EndsWell mode (e ∷ es) (x ∷ xs) = together mode (last_of e es) x ≡ false

-- a beginning of a list, of one entry at least, that ends where the next one may be parted
pub record IsPieceOf (mode : Mode) (entries list : List Cell) : Type 0 where
  pub rest : List Cell
  pub whole : list ≡ entries ++ rest
  pub ends : EndsWell mode entries rest

-- pieces from a place and a number to a place and a number: the numbers never fall and are `most` at the most, and each piece is one of
-- what is left behind the place before it of the answer over its number of mutations
abbrev pub Walks : (ℕ → List Cell) → ℕ → Mode → Place → ℕ → List Piece → Place → ℕ → Type 0
Walks answers most mode p n [] q l = (q ≡ p) × (l ≡ n)
Walks answers most mode p n (x ∷ xs) q l =
    (n ≤ x.n) × (x.n ≤ most) × IsPieceOf mode x.entries (after p (answers x.n)) × Walks answers most mode (place_after mode p x.entries) x.n xs q l

-- a walk that came to a place at number l may end at n: nothing is left there
pub record IsEnd (answers : ℕ → List Cell) (most : ℕ) (q : Place) (l n : ℕ) : Type 0 where
  pub later : l ≤ n
  pub bound : n ≤ most
  pub nothing : after q (answers n) ≡ []

-- one piece, or none of no entries
unfoldable pub pieces_of : ℕ → List Cell → List Piece
pieces_of n [] = []
pieces_of n (e ∷ es) = record { n = n; entries = e ∷ es } ∷ []

-- the pieces of a fetch of m entries at n, where this list is left
unfoldable pub fetch_pieces : Mode → ℕ → ℕ → List Cell → List Piece
fetch_pieces mode m n list = pieces_of n (take_together mode m list)

-- the number at which nothing is left, if nothing is
abbrev pub end_of : ℕ → List Cell → Option ℕ
end_of n [] = Some n
end_of n (e ∷ es) = None

-- the entries of some pieces
abbrev pub entries_of_pieces : List Piece → List Cell
entries_of_pieces [] = []
entries_of_pieces (x ∷ xs) = x.entries ++ entries_of_pieces xs

-- all pieces are at one number
abbrev pub AreAt : ℕ → List Piece → Type 0
AreAt n [] = ⊤
AreAt n (x ∷ xs) = (x.n ≡ n) × AreAt n xs
