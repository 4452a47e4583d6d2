-- A step over the first entry that is left, and what stands from the first that passes on.
use Rattle.std.proofs.Common.{◌≡◌, ◌<◌, Bool, true, false, cond, List, [], ◌∷◌, Option, Some, length, refl, sym, ap, ◌∙◌, subst, arith}
use Rattle.tablet_model.specs.Cell.{Cell}
use Rattle.tablet_model.specs.Reductions.{Reduction}
use Rattle.tablet_model.specs.Sorted.{first, later, from_first}
use Rattle.cell_key.specs.declared.column_name.ColumnName.{ColumnName}
use Rattle.combiners.specs.Gathers.{Held, combined_from}

-- the first of a list, which does not pass, is stepped over
over_first : (p : Cell → Bool) (list : List Cell) (x : Cell) → Some x ≡ first list → p x ≡ false → from_first p (later list) ≡ from_first p list
over_first p [] x h k = refl
over_first p (y ∷ ys) x h k =
    let same : x ≡ y = cc in
    ap (λ b. cond b (y ∷ ys) (from_first p ys)) (sym (ap p (sym same) ∙ k))

-- nothing stands before the first of a list, which passes
at_first : (p : Cell → Bool) (list : List Cell) (x : Cell) → Some x ≡ first list → p x ≡ true → list ≡ from_first p list
at_first p [] x h k = refl
at_first p (y ∷ ys) x h k =
    let same : x ≡ y = cc in
    sym (ap (λ b. cond b (y ∷ ys) (from_first p ys)) (sym (ap p same) ∙ k))

-- behind the first of a list stands less
fewer : (list : List Cell) (x : Cell) → Some x ≡ first list → length (later list) < length list
fewer [] x h = cc
fewer (y ∷ ys) x h = omega arith

-- the first of what a pass makes, which does not pass, is stepped over
pub over_combined : (p : Cell → Bool) (names : List ColumnName) (q r : Reduction) (h k : Option Held) (rest new all : List Cell) (x : Cell) {b : Bool}
    → q ≡ r → Some x ≡ first (combined_from names q h rest) → b ≡ p x → b ≡ false
    → combined_from names q k new ≡ later (combined_from names q h rest)
    → from_first p (combined_from names r h rest) ≡ all → from_first p (combined_from names r k new) ≡ all
over_combined p names q r h k rest new all x same f is fails l i =
    ap (λ r. from_first p (combined_from names r k new)) (sym same)
    ∙ ap (from_first p) l
    ∙ over_first p (combined_from names q h rest) x f (sym is ∙ fails)
    ∙ ap (λ r. from_first p (combined_from names r h rest)) same
    ∙ i

-- nothing stands before the first of what a pass makes, which passes
pub at_combined : (p : Cell → Bool) (names : List ColumnName) (q r : Reduction) (h : Option Held) (rest all : List Cell) (x : Cell) {b : Bool}
    → q ≡ r → Some x ≡ first (combined_from names q h rest) → b ≡ p x → b ≡ true
    → from_first p (combined_from names r h rest) ≡ all → combined_from names r h rest ≡ all
at_combined p names q r h rest all x same f is passes i =
    at_first p (combined_from names r h rest) x (f ∙ ap (λ r. first (combined_from names r h rest)) same) (sym is ∙ passes) ∙ i

-- behind the first of what a pass makes stands less
pub fewer_combined : (names : List ColumnName) (q r : Reduction) (h k : Option Held) (rest new : List Cell) (x : Cell)
    → q ≡ r → Some x ≡ first (combined_from names q h rest)
    → combined_from names q k new ≡ later (combined_from names q h rest)
    → length (combined_from names r k new) < length (combined_from names r h rest)
fewer_combined names q r h k rest new x same f l =
    subst (λ r. length (combined_from names r k new) < length (combined_from names r h rest)) same
    (subst (λ list. length list < length (combined_from names q h rest)) (sym l) (fewer (combined_from names q h rest) x f))
