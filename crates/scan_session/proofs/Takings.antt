-- What is taken of a list: a piece of it, of enough entries and no more.
use Rattle.std.proofs.Common.{◌≡◌, ℕ, suc, ◌-◌, ◌<◌, ◌≤◌, Bool, true, false, cond, not, ◌&&◌, List, [], ◌∷◌, ◌++◌, length, eqb, refl, ap, arith}
use Rattle.tablet_model.specs.Cell.{Cell}
use Rattle.scan_session.specs.Takes.{Mode, together, taken_behind, take_together, last_of}
use Rattle.scan_session.specs.Walks.{EndsWell, IsPieceOf}

-- an entry before others doesn't change how they end
ends_longer : (mode : Mode) (a e : Cell) (es rest : List Cell) → EndsWell mode (e ∷ es) rest → EndsWell mode (a ∷ e ∷ es) rest
unfolding last_of
ends_longer mode a e es [] h = tt
ends_longer mode a e es (x ∷ xs) h = h

ends_shorter : (mode : Mode) (a e : Cell) (es rest : List Cell) → EndsWell mode (a ∷ e ∷ es) rest → EndsWell mode (e ∷ es) rest
unfolding last_of
ends_shorter mode a e es [] h = tt
ends_shorter mode a e es (x ∷ xs) h = h

second : (a b : Bool) → (a && not b) ≡ true → b ≡ false
second a b h = grind arith

-- what is taken behind an entry makes a piece with it
behind_ends : (mode : Mode) (m : ℕ) (last : Cell) (es : List Cell) → (rest : List Cell)
    × (es ≡ taken_behind mode m last es ++ rest) × EndsWell mode (last ∷ taken_behind mode m last es) rest
unfolding taken_behind last_of
behind_ends mode m last [] = ([], refl, tt)
behind_ends mode m last (e ∷ es) = by_answer (eqb m 0 && not (together mode last e)) refl (behind_ends mode (m - 1) e es)
  where
    by_answer : (b : Bool) → (eqb m 0 && not (together mode last e)) ≡ b
        → (rest : List Cell) × (es ≡ taken_behind mode (m - 1) e es ++ rest) × EndsWell mode (e ∷ taken_behind mode (m - 1) e es) rest
        → (rest : List Cell) × (e ∷ es ≡ cond b [] (e ∷ taken_behind mode (m - 1) e es) ++ rest)
        × EndsWell mode (last ∷ cond b [] (e ∷ taken_behind mode (m - 1) e es)) rest
    by_answer true h k = (e ∷ es, refl, second (eqb m 0) (together mode last e) h)
    by_answer false h k = (k.0, ap (λ l. e ∷ l) k.1, ends_longer mode last e (taken_behind mode (m - 1) e es) k.0 k.2)

-- what is taken is a piece
pub taken_piece : (mode : Mode) (m : ℕ) (e : Cell) (es : List Cell) → IsPieceOf mode (take_together mode m (e ∷ es)) (e ∷ es)
unfolding take_together
taken_piece mode m e es =
    let k = behind_ends mode (m - 1) e es in record { rest = k.0; whole = ap (λ l. e ∷ l) k.1; ends = k.2 }

is_zero : (m : ℕ) (t : Bool) → (eqb m 0 && t) ≡ true → m ≡ 0
is_zero m t h = grind arith

-- where fewer are taken, all are
enough_behind : (mode : Mode) (m : ℕ) (last : Cell) (es : List Cell) → length (taken_behind mode m last es) < m → taken_behind mode m last es ≡ es
unfolding taken_behind
enough_behind mode m last [] h = refl
enough_behind mode m last (e ∷ es) h = by_answer (eqb m 0 && not (together mode last e)) refl (enough_behind mode (m - 1) e es) h
  where
    by_answer : (b : Bool) → (eqb m 0 && not (together mode last e)) ≡ b
        → (length (taken_behind mode (m - 1) e es) < m - 1 → taken_behind mode (m - 1) e es ≡ es)
        → length (cond b [] (e ∷ taken_behind mode (m - 1) e es)) < m → cond b [] (e ∷ taken_behind mode (m - 1) e es) ≡ e ∷ es
    by_answer true b k h = let zero_left : m ≡ 0 = is_zero m _ b in absurd (omega arith)
    by_answer false b k h = ap (λ l. e ∷ l) (k (omega arith))

pub enough_taken : (mode : Mode) (m : ℕ) (list : List Cell) → length (take_together mode m list) < m → take_together mode m list ≡ list
unfolding take_together
enough_taken mode m [] h = refl
enough_taken mode m (e ∷ es) h = ap (λ l. e ∷ l) (enough_behind mode (m - 1) e es (omega arith))

-- where a beginning is long enough and ends well, no more is taken
no_more_behind : (mode : Mode) (m : ℕ) (last : Cell) (front rest : List Cell) → m ≤ length front → EndsWell mode (last ∷ front) rest
    → length (taken_behind mode m last (front ++ rest)) ≤ length front
unfolding taken_behind last_of
no_more_behind mode m last [] [] h ends = omega arith
no_more_behind mode m last [] (x ∷ xs) h ends =
    let none : length (cond (eqb m 0 && not (together mode last x)) [] (x ∷ taken_behind mode (m - 1) x xs)) ≡ 0 =
    ap (λ b. length (cond b [] (x ∷ taken_behind mode (m - 1) x xs))) (stops m (together mode last x) h ends) in omega arith
  where
    stops : (m : ℕ) (t : Bool) → m ≤ 0 → t ≡ false → (eqb m 0 && not t) ≡ true
    stops m t h e = grind arith
no_more_behind mode m last (e ∷ es) rest h ends =
    by_answer (eqb m 0 && not (together mode last e)) (no_more_behind mode (m - 1) e es rest (omega arith) (ends_shorter mode last e es rest ends))
  where
    by_answer : (b : Bool) → length (taken_behind mode (m - 1) e (es ++ rest)) ≤ length es
        → length (cond b [] (e ∷ taken_behind mode (m - 1) e (es ++ rest))) ≤ suc (length es)
    by_answer true k = omega arith
    by_answer false k = omega arith

pub no_more_taken : (mode : Mode) (m : ℕ) (front rest : List Cell) → m ≤ length front → EndsWell mode front rest
    → length (take_together mode m (front ++ rest)) ≤ length front
unfolding take_together
no_more_taken mode m [] rest h ends = absurd ends
no_more_taken mode m (e ∷ es) rest h ends =
    let k : length (taken_behind mode (m - 1) e (es ++ rest)) ≤ length es = no_more_behind mode (m - 1) e es rest (omega arith) ends in omega arith
