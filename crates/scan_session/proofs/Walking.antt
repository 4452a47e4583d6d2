-- Walks, and the fetches that make them.
use Rattle.std.proofs.Common.{◌≡◌, ℕ, ◌-◌, ◌≤◌, List, [], ◌∷◌, ◌++◌, refl, sym, ap, ◌∙◌, subst, append_assoc, append-nil, le_trans, le_refl}
use Rattle.tablet_model.specs.Cell.{Cell}
use Rattle.tablet_model.specs.Places.{Start, after}
use Rattle.scan_session.specs.Takes.{place_after, take_together, taken_behind}
use Rattle.scan_session.specs.WalkLaws.{NothingIsSkipped, PiecesBeginTheAnswer, WalksAreWhole, WalksJoin, WalksGoOn, WalksBeginLower, WalksAreBounded, FetchesWalk, RestIsLeft}
use Rattle.scan_session.specs.Walks.{IsPieceOf, Walks, pieces_of, fetch_pieces, entries_of_pieces}
use Rattle.scan_session.proofs.Beyond.{behind_piece}
use Rattle.scan_session.proofs.Takings.{taken_piece}

pub nothing_skipped : NothingIsSkipped
nothing_skipped answers most mode p q n k l [] up at w = ap (λ r. after r (answers k)) (sym w.0)
nothing_skipped answers most mode p q n k l (x ∷ pieces) up at w =
    let piece : IsPieceOf mode x.entries (after p (answers k)) = subst (λ j. IsPieceOf mode x.entries (after p (answers j))) at.0 w.2 in
    piece.whole
    ∙ ap (λ l. x.entries ++ l)
    (sym (behind_piece mode p (answers k) x.entries piece.rest up piece.whole piece.ends)
    ∙ nothing_skipped answers most mode (place_after mode p x.entries) q x.n k l pieces up at.1 w.3)
    ∙ sym (append_assoc x.entries (entries_of_pieces pieces) (after q (answers k)))

-- everything lies behind the start
all_after : (list : List Cell) → after Start list ≡ list
all_after [] = refl
all_after (x ∷ xs) = ap (λ l. x ∷ l) (all_after xs)

pub begin_answer : PiecesBeginTheAnswer
begin_answer answers most mode q n k l pieces up at w =
    sym (all_after (answers k)) ∙ nothing_skipped answers most mode Start q n k l pieces up at w

pub whole_walks : WalksAreWhole
whole_walks answers most mode q n k l pieces up at w end =
    sym (begin_answer answers most mode q n k l pieces up at w
    ∙ ap (λ l. entries_of_pieces pieces ++ l) end.nothing
    ∙ append-nil (entries_of_pieces pieces))

pub walks_join : WalksJoin
walks_join answers most mode p q r n l k [] ys v w =
    subst (λ j. Walks answers most mode p j ys r k) v.1 (subst (λ s. Walks answers most mode s l ys r k) v.0 w)
walks_join answers most mode p q r n l k (x ∷ xs) ys v w =
    (v.0, v.1, v.2, walks_join answers most mode (place_after mode p x.entries) q r x.n l k xs ys v.3 w)

pub walks_on : WalksGoOn
walks_on answers more most further mode p q n l [] same longer w = w
walks_on answers more most further mode p q n l (x ∷ xs) same longer w = (
  w.0,
  le_trans w.1 longer,
  subst (λ list. IsPieceOf mode x.entries (after p list)) (sym (same x.n w.1)) w.2,
  walks_on answers more most further mode (place_after mode p x.entries) q x.n l xs same longer w.3,
)

pub walks_lower : WalksBeginLower
walks_lower answers most mode p q n j l [] low w = (j, subst (λ z. j ≤ z) (sym w.1) low, (w.0, refl))
walks_lower answers most mode p q n j l (x ∷ xs) low w = (l, le_refl l, (le_trans low w.0, w.1, w.2, w.3))

pub walks_bounded : WalksAreBounded
walks_bounded answers most mode p q n l [] bound w = (subst (λ z. n ≤ z) (sym w.1) (le_refl n), subst (λ z. z ≤ most) (sym w.1) bound)
walks_bounded answers most mode p q n l (x ∷ xs) bound w =
    let rest = walks_bounded answers most mode (place_after mode p x.entries) q x.n l xs w.1 w.3 in (le_trans w.0 rest.0, rest.1)

pub fetches_are_walks : FetchesWalk
unfolding fetch_pieces pieces_of take_together place_after
fetches_are_walks answers most mode p n k m h b = of_left (after p (answers k)) refl
  where
    of_left : (left : List Cell) → after p (answers k) ≡ left
        → (l : ℕ) × Walks answers most mode p n (fetch_pieces mode m k left) (place_after mode p (take_together mode m left)) l
    of_left [] e = (n, (refl, refl))
    of_left (x ∷ xs) e = (k, (h, b, subst (IsPieceOf mode (x ∷ taken_behind mode (m - 1) x xs)) (sym e) (taken_piece mode m x xs), (refl, refl)))

pub rest_left : RestIsLeft
unfolding take_together place_after
rest_left mode m p list up = of_left (after p list) refl
  where
    of_left : (left : List Cell) → after p list ≡ left → left ≡ take_together mode m left ++ after (place_after mode p (take_together mode m left)) list
    of_left [] e = sym e
    of_left (x ∷ xs) e =
        let k : IsPieceOf mode (take_together mode m (x ∷ xs)) (x ∷ xs) = taken_piece mode m x xs in
        k.whole ∙ ap (λ l. take_together mode m (x ∷ xs) ++ l) (sym (behind_piece mode p list (take_together mode m (x ∷ xs)) k.rest up (e ∙ k.whole) k.ends))
