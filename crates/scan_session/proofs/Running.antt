-- A run that is taken out of a list, entry by entry.
use Rattle.std.proofs.Common.{◌≡◌, ℕ, suc, ◌-◌, Bool, true, false, cond, not, ◌&&◌, List, [], ◌∷◌, ◌++◌, length, eqb, nat_le, Some, None, refl, sym, ap, subst, ◌∙◌, arith, append_assoc, append-nil, length-append}
use Rattle.std.specs.Prelude.{slice_get}
use Rattle.tablet_model.specs.Cell.{Cell}
use Rattle.tablet_model.specs.Places.{Place}
use Rattle.tablet_model.specs.Sorted.{first, later}
use Rattle.scan_session.specs.Runs.{may_end}
use Rattle.scan_session.specs.Takes.{Mode, together, taken_behind, take_together, last_of, behind, place_after}

some_same : (x y : Cell) → Some x ≡ Some y → x ≡ y
some_same x y e = cc

-- what is taken in all, where a run has been taken and the rest is left
abbrev pub taken_with : Mode → ℕ → List Cell → List Cell → List Cell
taken_with mode m [] rest = take_together mode m rest
taken_with mode m (e ∷ es) rest = (e ∷ es) ++ taken_behind mode (m - suc (length es)) (last_of e es) rest

-- the last of a longer run
last_pushed : (e x : Cell) (es : List Cell) → last_of e (es ++ x ∷ []) ≡ x
unfolding last_of
last_pushed e x [] = refl
last_pushed e x (y ∷ ys) = last_pushed y x ys

-- a run may end at the number that is wanted
same_test : (m n : ℕ) (t : Bool) → (eqb (m - n) 0 && t) ≡ (nat_le m n && t)
same_test m n t = grind arith

-- the run ends before the next entry
pub run_ends : (mode : Mode) (m : ℕ) (run list whole : List Cell) (x : Cell) → Some x ≡ first list → true ≡ may_end mode m run x
    → taken_with mode m run list ≡ whole → run ≡ whole
unfolding may_end taken_behind
run_ends mode m run [] whole x f h e = absurd (cc)
run_ends mode m [] (y ∷ ys) whole x f h e = absurd (cc)
run_ends mode m (e ∷ es) (y ∷ ys) whole x f h t =
    let ends : may_end mode m (e ∷ es) y ≡ true = subst (λ z. may_end mode m (e ∷ es) z ≡ true) (some_same x y f) (sym h) in
    sym (ap (λ b. (e ∷ es) ++ cond b [] (y ∷ taken_behind mode (m - suc (length es) - 1) y ys)) (same_test m (suc (length es)) (not (together mode (last_of e es) y)) ∙ ends)
    ∙ append-nil (e ∷ es))
    ∙ t

-- the next entry joins the run
joins : (mode : Mode) (m : ℕ) (run : List Cell) (x : Cell) (xs : List Cell) → may_end mode m run x ≡ false
    → taken_with mode m (run ++ x ∷ []) xs ≡ taken_with mode m run (x ∷ xs)
unfolding may_end taken_behind take_together last_of
joins mode m [] x xs h = refl
joins mode m (e ∷ es) x xs h =
    append_assoc (e ∷ es) (x ∷ []) (taken_behind mode (m - suc (length (es ++ x ∷ []))) (last_of e (es ++ x ∷ [])) xs)
    ∙ (λ i. (e ∷ es) ++ x ∷ taken_behind mode (fewer i) (last_pushed e x es i) xs)
    ∙ ap (λ b. (e ∷ es) ++ cond b [] (x ∷ taken_behind mode (m - suc (length es) - 1) x xs)) (sym (same_test m (suc (length es)) (not (together mode (last_of e es) x)) ∙ h))
  where
    fewer : m - suc (length (es ++ x ∷ [])) ≡ m - suc (length es) - 1
    fewer = omega (arith, length-append es (x ∷ []))

pub run_goes_on : (mode : Mode) (m : ℕ) (run list whole pushed left : List Cell) (x : Cell) → Some x ≡ first list → false ≡ may_end mode m run x
    → pushed ≡ run ++ x ∷ [] → left ≡ later list → taken_with mode m run list ≡ whole → taken_with mode m pushed left ≡ whole
run_goes_on mode m run [] whole pushed left x f h p l t = absurd (cc)
run_goes_on mode m run (y ∷ ys) whole pushed left x f h p l t =
    let same : x ≡ y = some_same x y f in
    (λ i. taken_with mode m (p i) (l i))
    ∙ ap (λ z. taken_with mode m (run ++ z ∷ []) ys) same
    ∙ joins mode m run y ys (subst (λ z. may_end mode m run z ≡ false) same (sym h))
    ∙ t

-- and the rest is left behind it
pub rest_goes_on : (run list whole pushed left : List Cell) (x : Cell) → Some x ≡ first list → pushed ≡ run ++ x ∷ [] → left ≡ later list
    → whole ≡ run ++ list → whole ≡ pushed ++ left
rest_goes_on run [] whole pushed left x f p l e = absurd (cc)
rest_goes_on run (y ∷ ys) whole pushed left x f p l e =
    e ∙ sym (append_assoc run (y ∷ []) ys) ∙ ap (λ z. (run ++ z ∷ []) ++ ys) (sym (some_same x y f)) ∙ sym (λ i. p i ++ l i)

-- nothing is left
pub run_is_all : (mode : Mode) (m : ℕ) (run list whole : List Cell) → None ≡ first list → taken_with mode m run list ≡ whole → run ≡ whole
unfolding taken_behind take_together
run_is_all mode m [] [] whole f t = t
run_is_all mode m (e ∷ es) [] whole f t = sym (append-nil (e ∷ es)) ∙ t
run_is_all mode m run (x ∷ xs) whole f t = absurd (cc)

-- the last of some entries by its index
last_is : (e : Cell) (es : List Cell) → slice_get (e ∷ es) (length (e ∷ es) - 1) ≡ Some (last_of e es)
unfolding last_of
last_is e [] = refl
last_is e (x ∷ xs) = ap (slice_get (e ∷ x ∷ xs)) fewer ∙ ap (slice_get (x ∷ xs)) more ∙ last_is x xs
  where
    fewer : length (e ∷ x ∷ xs) - 1 ≡ suc (length xs)
    fewer = omega arith

    more : length xs ≡ length (x ∷ xs) - 1
    more = omega arith

-- where a run has a last entry, that entry decides whether it may end
pub may_end_behind : (mode : Mode) (m : ℕ) (run : List Cell) (last x : Cell) → Some last ≡ slice_get run (length run - 1)
    → may_end mode m run x ≡ (nat_le m (length run) && not (together mode last x))
unfolding may_end
may_end_behind mode m [] last x h = absurd (cc)
may_end_behind mode m (e ∷ es) last x h =
    ap (λ y. nat_le m (length (e ∷ es)) && not (together mode y x)) (sym (some_same last (last_of e es) (h ∙ last_is e es)))

-- and a reader stands behind it
pub moved_behind : (mode : Mode) (run : List Cell) (last : Cell) (old : Place) → Some last ≡ slice_get run (length run - 1)
    → behind mode last ≡ place_after mode old run
unfolding place_after
moved_behind mode [] last old h = absurd (cc)
moved_behind mode (e ∷ es) last old h = ap (behind mode) (some_same last (last_of e es) (h ∙ last_is e es))
