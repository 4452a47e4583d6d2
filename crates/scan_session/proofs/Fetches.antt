-- What a fetch gives, and the walk that it goes on with.
use Rattle.std.proofs.Common.{◌≡◌, ℕ, ◌<◌, ◌≤◌, List, [], ◌∷◌, ◌++◌, length, Option, refl, sym, ap, ◌∙◌, subst, le_refl, append_assoc, append-nil, length-append, ◌+◌, arith}
use Rattle.std.proofs.Math.Nat.{lt_of_not-le}
use Rattle.std.proofs.Math.Seq.{take-length}
use Rattle.tablet_model.specs.Cell.{Cell}
use Rattle.tablet_model.specs.Order.{above}
use Rattle.tablet_model.specs.Places.{Place, after}
use Rattle.tablet_model.specs.Sorted.{Ascends}
use Rattle.tablet_view.specs.Snapshot.{Snapshot}
use Rattle.scan_session.specs.Sessions.{SessionState, AnswersInOrder, IsFetch, TakesEnough, number_of, answer_over, answers_of, left_of}
use Rattle.scan_session.specs.Takes.{Mode, place_after, take_together}
use Rattle.scan_session.specs.Walks.{EndsWell, Walks, fetch_pieces, pieces_of, entries_of_pieces, end_of}
use Rattle.scan_session.specs.declared.piece.Piece.{Piece}
use Rattle.scan_session.proofs.Takings.{enough_taken, no_more_taken}
use Rattle.scan_session.proofs.Walking.{fetches_are_walks, rest_left}

-- a fetch is what is taken of what is left, and where nothing is left behind it the end
pub fetch_is : (m : ℕ) (p : Place) (s : SessionState) (rest : List Cell) (n : ℕ) (given : List Piece) (end : Option ℕ)
    → Ascends above (answer_over s s.view.log) → rest ≡ after p (answer_over s s.view.log) → n ≡ number_of s
    → given ≡ fetch_pieces s.mode m n rest → s.place ≡ place_after s.mode p (take_together s.mode m rest)
    → ((left : List Cell) → rest ≡ take_together s.mode m rest ++ left → end ≡ end_of n left) → IsFetch m p s given end
fetch_is m p s rest n given end up rest_is n_is given_is place_is end_is =
    let whole : List Cell = answer_over s s.view.log in
    let place : s.place ≡ place_after s.mode p (take_together s.mode m (after p whole)) = place_is ∙ ap (λ l. place_after s.mode p (take_together s.mode m l)) rest_is in
    let left : rest ≡ take_together s.mode m rest ++ left_of s =
    rest_is ∙ rest_left s.mode m p whole up ∙ sym (λ i. take_together s.mode m (rest_is i) ++ after (place i) whole) in
    record {
      pieces = given_is ∙ (λ i. fetch_pieces s.mode m (n_is i) (rest_is i));
      place = place;
      ended = end_is (left_of s) left ∙ ap (λ k. end_of k (left_of s)) n_is;
    }

-- where a session goes on over a view that it found, behind the place that it came to
pub fetch_over : (m : ℕ) (old new : SessionState) (view found : Snapshot) (mode : Mode) (place : Place) (rest : List Cell) (n : ℕ) (given : List Piece) (end : Option ℕ)
    → new ≡ record old { view = view; place = place } → mode ≡ old.mode → found ≡ view
    → Ascends above (answer_over (record old { view = found }) found.log) → rest ≡ left_of (record old { view = found }) → n ≡ length view.log
    → given ≡ fetch_pieces mode m n rest → place ≡ place_after mode old.place (take_together mode m rest)
    → ((left : List Cell) → rest ≡ take_together mode m rest ++ left → end ≡ end_of n left) → IsFetch m old.place new given end
fetch_over m old new view found mode place rest n given end new_is mode_is found_is up rest_is n_is given_is place_is end_is =
    let s : SessionState = record old { view = view; place = place } in
    let P : Snapshot → Type 0 = λ v. Ascends above (answer_over (record old { view = v }) v.log) in
    subst (λ t. IsFetch m old.place t given end) (sym new_is)
    (fetch_is m old.place s rest n given end
    (subst P found_is up)
    (rest_is ∙ ap (λ v. left_of (record old { view = v })) found_is)
    n_is
    (given_is ∙ ap (λ k. fetch_pieces k m n rest) mode_is)
    (place_is ∙ ap (λ k. place_after k old.place (take_together k m rest)) mode_is)
    (λ left e. end_is left (subst (λ k. rest ≡ take_together k m rest ++ left) (sym mode_is) e)))

-- a fetch goes on with a walk over the log of the view
pub fetch_walks : (m : ℕ) (p : Place) (s : SessionState) (pieces : List Piece) (ended : Option ℕ) (n : ℕ) → IsFetch m p s pieces ended → n ≤ number_of s
    → (l : ℕ) × Walks (answers_of s) (number_of s) s.mode p n pieces s.place l
fetch_walks m p s pieces ended n fetch h =
    let answer_is : answers_of s (number_of s) ≡ answer_over s s.view.log = ap (answer_over s) (take-length s.view.log) in
    let walk = fetches_are_walks (answers_of s) (number_of s) s.mode p n (number_of s) m h (le_refl (number_of s)) in
    let pieces_are : fetch_pieces s.mode m (number_of s) (after p (answers_of s (number_of s))) ≡ pieces =
    ap (λ list. fetch_pieces s.mode m (number_of s) (after p list)) answer_is ∙ sym fetch.pieces in
    let place_is : place_after s.mode p (take_together s.mode m (after p (answers_of s (number_of s)))) ≡ s.place =
    ap (λ list. place_after s.mode p (take_together s.mode m (after p list))) answer_is ∙ sym fetch.place in (
      walk.0,
      subst (λ q. Walks (answers_of s) (number_of s) s.mode p n pieces q walk.0) place_is
          (subst (λ list. Walks (answers_of s) (number_of s) s.mode p n list (place_after s.mode p (take_together s.mode m (after p (answers_of s (number_of s))))) walk.0) pieces_are walk.1),
    )

-- a fetch gives what is taken
joined_fetched : (mode : Mode) (m n : ℕ) (list : List Cell) → entries_of_pieces (fetch_pieces mode m n list) ≡ take_together mode m list
unfolding fetch_pieces pieces_of
joined_fetched mode m n list = of_taken (take_together mode m list)
  where
    of_taken : (es : List Cell) → entries_of_pieces (pieces_of n es) ≡ es
    of_taken [] = refl
    of_taken (e ∷ es) = append-nil (e ∷ es)

-- nothing stands behind a list that is all
nothing_behind : (xs ys : List Cell) → xs ≡ xs ++ ys → ys ≡ []
nothing_behind xs [] e = refl
nothing_behind xs (y ∷ ys) e = absurd (let same : length xs ≡ length xs + length (y ∷ ys) = ap (λ l. length l) e ∙ length-append xs (y ∷ ys) in omega arith)

-- how some entries end is seen at the next one
ends_at : (mode : Mode) (front : List Cell) (e : Cell) (xs ys : List Cell) → EndsWell mode front (e ∷ xs) → EndsWell mode front (e ∷ ys)
ends_at mode [] e xs ys h = h
ends_at mode (f ∷ fs) e xs ys h = h

-- where less is taken than was asked, nothing is left
none_left : (mode : Mode) (m : ℕ) (given list left : List Cell) → given ≡ take_together mode m list → list ≡ take_together mode m list ++ left
    → length given < m → left ≡ []
none_left mode m given list left g whole h =
    nothing_behind list left (whole ∙ ap (λ l. l ++ left) (enough_taken mode m list (subst (λ l. length l < m) g h)))

-- and no shorter beginning that ends well would have been enough
none_shorter : (mode : Mode) (m : ℕ) (given list left : List Cell) → given ≡ take_together mode m list → list ≡ take_together mode m list ++ left
    → (front rest : List Cell) (e : Cell) → given ≡ front ++ e ∷ rest → EndsWell mode front (e ∷ rest) → length front < m
none_shorter mode m given list left g whole front rest e split ends = lt_of_not-le (λ h. too_long h)
  where
    is : take_together mode m list ≡ front ++ e ∷ rest
    is = sym g ∙ split

    more : list ≡ front ++ e ∷ (rest ++ left)
    more = whole ∙ ap (λ l. l ++ left) is ∙ append_assoc front (e ∷ rest) left

    long : length (take_together mode m (front ++ e ∷ (rest ++ left))) ≡ length front + length (e ∷ rest)
    long = ap (λ l. length (take_together mode m l)) (sym more) ∙ ap (λ l. length l) is ∙ length-append front (e ∷ rest)

    too_long : m ≤ length front → ⊥
    too_long h =
        let short : length (take_together mode m (front ++ e ∷ (rest ++ left))) ≤ length front =
        no_more_taken mode m front (e ∷ (rest ++ left)) h (ends_at mode front e rest (rest ++ left) ends) in omega (arith, long)

-- so a fetch gives enough entries and no more
pub fetch_enough : (m : ℕ) (p : Place) (s : SessionState) (given : List Piece) (end : Option ℕ) → AnswersInOrder s → IsFetch m p s given end
    → TakesEnough m s given
fetch_enough m p s given end up fetch =
    let whole : List Cell = answer_over s s.view.log in
    let all : entries_of_pieces given ≡ take_together s.mode m (after p whole) = ap entries_of_pieces fetch.pieces ∙ joined_fetched s.mode m (number_of s) (after p whole) in
    let left : after p whole ≡ take_together s.mode m (after p whole) ++ left_of s =
    rest_left s.mode m p whole (up s.view.log) ∙ ap (λ q. take_together s.mode m (after p whole) ++ after q whole) (sym fetch.place) in
    record {
      enough = none_left s.mode m (entries_of_pieces given) (after p whole) (left_of s) all left;
      no_more = none_shorter s.mode m (entries_of_pieces given) (after p whole) (left_of s) all left;
    }
