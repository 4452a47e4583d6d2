-- Each piece of a fetch is within its batch.
use Rattle.std.proofs.Common.{◌≡◌, ℕ, ◌+◌, ◌<◌, List, [], ◌∷◌, ◌++◌, All, length, refl, sym, ap, subst, ◌∙◌, arith, append_assoc, length-append}
use Rattle.std.proofs.lemmas.List.Elements.{All-nil, All-cons}
use Rattle.tablet_model.specs.Cell.{Cell}
use Rattle.scan_session.specs.Sessions.{SessionState, TakesEnough}
use Rattle.scan_session.specs.Takes.{Mode, last_of}
use Rattle.scan_session.specs.Walks.{EndsWell, entries_of_pieces}
use Rattle.scan_session.specs.declared.piece.Piece.{Piece}
use Rattle.live_tablet.specs.Scans.{IsWithin}

last_behind : (a : Cell) (before : List Cell) (x : Cell) (xs : List Cell) → last_of a (before ++ x ∷ xs) ≡ last_of x xs
unfolding last_of
last_behind a [] x xs = refl
last_behind a (b ∷ bs) x xs = last_behind b bs x xs

-- more entries may stand before, and behind
ends_between : (mode : Mode) (before front rest behind : List Cell) (e : Cell) → EndsWell mode front (e ∷ rest) → EndsWell mode (before ++ front) (e ∷ rest ++ behind)
ends_between mode before [] rest behind e h = absurd h
ends_between mode [] (x ∷ xs) rest behind e h = h
ends_between mode (b ∷ bs) (x ∷ xs) rest behind e h = rw (last_behind b bs x xs) h

fewer : (a b m : ℕ) → a + b < m → b < m
fewer a b m h = omega (arith, h)

within_all : (mode : Mode) (m : ℕ) (before : List Cell) (pieces : List Piece)
    → ((front rest : List Cell) (e : Cell) → before ++ entries_of_pieces pieces ≡ front ++ e ∷ rest → EndsWell mode front (e ∷ rest) → length front < m)
    → All (IsWithin mode m) pieces
within_all mode m before [] few = All-nil (IsWithin mode m)
within_all mode m before (x ∷ xs) few =
    let others : List Cell = entries_of_pieces xs in
    All-cons (IsWithin mode m) x xs
    (λ front rest e is ends.
    let all : before ++ (x.entries ++ others) ≡ (before ++ front) ++ (e ∷ rest ++ others) =
    ap (λ l. before ++ (l ++ others)) is ∙ ap (λ l. before ++ l) (append_assoc front (e ∷ rest) others) ∙ sym (append_assoc before front (e ∷ rest ++ others)) in
    fewer (length before) (length front) m
    (subst (λ k. k < m) (length-append before front) (few (before ++ front) (rest ++ others) e all (ends_between mode before front rest others e ends))))
    (within_all mode m (before ++ x.entries) xs (λ front rest e is ends. few front rest e (sym (append_assoc before x.entries others) ∙ is) ends))

pub pieces_within : (m : ℕ) (s : SessionState) (pieces : List Piece) → TakesEnough m s pieces → All (IsWithin s.mode m) pieces
pieces_within m s pieces takes = within_all s.mode m [] pieces takes.no_more
