-- The laws of walks, as statements: this project's own theorems.
use Rattle.std.specs.Prelude.{◌≡◌, ℕ, ◌≤◌, ◌<◌, List, ◌++◌, length, take}
use Rattle.tablet_model.specs.Cell.{Cell}
use Rattle.tablet_model.specs.Order.{above}
use Rattle.tablet_model.specs.Places.{Place, Start, after}
use Rattle.tablet_model.specs.Sorted.{Ascends}
use Rattle.scan_session.specs.Keys.{KeysAreBelow, KeysDiffer, KeysNeverFall, KeysRise, RowsAreBelow}
use Rattle.scan_session.specs.Takes.{Mode, plain, isolated, place_after, take_together}
use Rattle.scan_session.specs.Walks.{EndsWell, IsEnd, IsPieceOf, Walks, fetch_pieces, entries_of_pieces, AreAt}
use Rattle.scan_session.specs.declared.piece.Piece.{Piece}

-- each answer is in order
abbrev pub AnswersAscend : (ℕ → List Cell) → ℕ → Type 0
AnswersAscend answers most = (k : ℕ) → k ≤ most → Ascends above (answers k)

-- at one number the pieces, and behind them what is left, are all that was left: no key is skipped, and none comes twice
abbrev pub NothingIsSkipped : Type 0
NothingIsSkipped = (answers : ℕ → List Cell) (most : ℕ) (mode : Mode) (p q : Place) (n k l : ℕ) (pieces : List Piece)
    → Ascends above (answers k) → AreAt k pieces → Walks answers most mode p n pieces q l
    → after p (answers k) ≡ entries_of_pieces pieces ++ after q (answers k)

-- so from the start they are a beginning of the answer
abbrev pub PiecesBeginTheAnswer : Type 0
PiecesBeginTheAnswer = (answers : ℕ → List Cell) (most : ℕ) (mode : Mode) (q : Place) (n k l : ℕ) (pieces : List Piece)
    → Ascends above (answers k) → AreAt k pieces → Walks answers most mode Start n pieces q l
    → answers k ≡ entries_of_pieces pieces ++ after q (answers k)

-- and a walk at one number that ends gives the whole answer
abbrev pub WalksAreWhole : Type 0
WalksAreWhole = (answers : ℕ → List Cell) (most : ℕ) (mode : Mode) (q : Place) (n k l : ℕ) (pieces : List Piece)
    → Ascends above (answers k) → AreAt k pieces → Walks answers most mode Start n pieces q l → IsEnd answers most q l k
    → entries_of_pieces pieces ≡ answers k

-- walks, one behind the other, are a walk
abbrev pub WalksJoin : Type 0
WalksJoin = (answers : ℕ → List Cell) (most : ℕ) (mode : Mode) (p q r : Place) (n l k : ℕ) (xs ys : List Piece)
    → Walks answers most mode p n xs q l → Walks answers most mode q l ys r k → Walks answers most mode p n (xs ++ ys) r k

-- a walk over some answers is a walk over more, which begin with them
abbrev pub WalksGoOn : Type 0
WalksGoOn = (answers more : ℕ → List Cell) (most further : ℕ) (mode : Mode) (p q : Place) (n l : ℕ) (pieces : List Piece)
    → ((k : ℕ) → k ≤ most → more k ≡ answers k) → most ≤ further
    → Walks answers most mode p n pieces q l → Walks more further mode p n pieces q l

-- a walk may begin at a lower number; then it comes to one that is no higher
abbrev pub WalksBeginLower : Type 0
WalksBeginLower = (answers : ℕ → List Cell) (most : ℕ) (mode : Mode) (p q : Place) (n j l : ℕ) (pieces : List Piece)
    → j ≤ n → Walks answers most mode p n pieces q l → (i : ℕ) × (i ≤ l) × Walks answers most mode p j pieces q i

-- the number that a walk comes to is not lower than its first one, and bounded as all its numbers are
abbrev pub WalksAreBounded : Type 0
WalksAreBounded = (answers : ℕ → List Cell) (most : ℕ) (mode : Mode) (p q : Place) (n l : ℕ) (pieces : List Piece)
    → n ≤ most → Walks answers most mode p n pieces q l → (n ≤ l) × (l ≤ most)

-- no piece ends between two entries with equal keys, in isolated mode too
abbrev pub PiecesPartNoKey : Type 0
PiecesPartNoKey = (mode : Mode) (entries list : List Cell) → IsPieceOf mode entries list → IsPieceOf plain entries list

-- along a walk no key is less than one before it, across numbers too
abbrev pub WalksNeverFall : Type 0
WalksNeverFall = (answers : ℕ → List Cell) (most : ℕ) (mode : Mode) (p q : Place) (n l : ℕ) (pieces : List Piece)
    → AnswersAscend answers most → Walks answers most mode p n pieces q l → KeysNeverFall (entries_of_pieces pieces)

-- entries with equal keys stand in one piece: the keys of earlier pieces are less than those of later ones
abbrev pub KeysStandInOnePiece : Type 0
KeysStandInOnePiece = (answers : ℕ → List Cell) (most : ℕ) (mode : Mode) (p q : Place) (n l : ℕ) (xs ys : List Piece)
    → AnswersAscend answers most → Walks answers most mode p n (xs ++ ys) q l → KeysAreBelow (entries_of_pieces xs) (entries_of_pieces ys)

-- and in isolated mode so do those of one row, which thus has one number
abbrev pub RowsStandInOnePiece : Type 0
RowsStandInOnePiece = (answers : ℕ → List Cell) (most : ℕ) (p q : Place) (n l : ℕ) (xs ys : List Piece)
    → AnswersAscend answers most → Walks answers most isolated p n (xs ++ ys) q l → RowsAreBelow (entries_of_pieces xs) (entries_of_pieces ys)

-- where the keys of each answer are all different, each key of a walk is greater than those before it, across numbers too
abbrev pub DifferentKeysRise : Type 0
DifferentKeysRise = (answers : ℕ → List Cell) (most : ℕ) (mode : Mode) (p q : Place) (n l : ℕ) (pieces : List Piece)
    → AnswersAscend answers most → ((k : ℕ) → k ≤ most → KeysDiffer (answers k)) → Walks answers most mode p n pieces q l
    → KeysRise (entries_of_pieces pieces)

-- a fetch goes on with a walk
abbrev pub FetchesWalk : Type 0
FetchesWalk = (answers : ℕ → List Cell) (most : ℕ) (mode : Mode) (p : Place) (n k m : ℕ) → n ≤ k → k ≤ most
    → (l : ℕ) × Walks answers most mode p n (fetch_pieces mode m k (after p (answers k))) (place_after mode p (take_together mode m (after p (answers k)))) l

-- behind what was taken only the rest is left
abbrev pub RestIsLeft : Type 0
RestIsLeft = (mode : Mode) (m : ℕ) (p : Place) (list : List Cell) → Ascends above list
    → after p list ≡ take_together mode m (after p list) ++ after (place_after mode p (take_together mode m (after p list))) list

-- what is taken has at least m entries, or all that there are
abbrev pub EnoughIsTaken : Type 0
EnoughIsTaken = (mode : Mode) (m : ℕ) (list : List Cell) → length (take_together mode m list) < m → take_together mode m list ≡ list

-- and it is the shortest such beginning that ends well
abbrev pub NoMoreIsTaken : Type 0
NoMoreIsTaken = (mode : Mode) (m : ℕ) (front rest : List Cell) → m ≤ length front → EndsWell mode front rest
    → length (take_together mode m (front ++ rest)) ≤ length front

-- where the keys are all different, a plain fetch of m takes the first m entries of what is left
abbrev pub DifferentKeysAreCounted : Type 0
DifferentKeysAreCounted = (m : ℕ) (p : Place) (list : List Cell) → 1 ≤ m → KeysDiffer list
    → take_together plain m (after p list) ≡ take m (after p list)
