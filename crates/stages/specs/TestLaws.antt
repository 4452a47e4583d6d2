-- Laws of a stage that keeps each entry by a test of it alone.
use Rattle.std.proofs.Common.{◌≡◌, ◌&&◌, Bool, true, false, cond, List, [], ◌∷◌, refl, sym, ap, ◌∙◌}
use Rattle.std.specs.List.{filter}
use Rattle.std.proofs.lemmas.List.Elements.{filter_agree}
use Rattle.tablet_model.specs.Cell.{Cell}
use Rattle.tablet_model.specs.Order.{above}
use Rattle.tablet_model.specs.Sorted.{Ascends, from_first}
use Rattle.tablet_model.specs.Cuts.{Span, is_behind, is_before, holds, within}
use Rattle.tablet_model.proofs.Bools.{both-of-and}
use Rattle.tablet_model.proofs.Columns.{filter_filter}
use Rattle.tablet_model.proofs.CutLemmas.{GoesUp}
use Rattle.tablet_model.proofs.Orders.{above_exact}
use Rattle.tablet_model.proofs.Seeks.{from_first_is}
use Rattle.tablet_model.proofs.Sums.{Ascends-filter}
use Rattle.stages.specs.Passes.{kept_from}

-- a pass keeps what passes the test
pub test_pass : {T : Type 0} (keeps : T → Cell → Bool) (s : T) (list : List Cell) → kept_from keeps (λ s e. s) s list ≡ filter (keeps s) list
test_pass keeps s [] = refl
test_pass keeps s (e ∷ es) = ap (λ l. cond (keeps s e) (e ∷ l) l) (test_pass keeps s es)

pub and_swap : (a b : Bool) → (a && b) ≡ (b && a)
and_swap true true = refl
and_swap true false = refl
and_swap false true = refl
and_swap false false = refl

-- from the first on, where all pass
from_first_same : (b p h : Cell → Bool) → ((e : Cell) → h e ≡ true → b e ≡ true) → (list : List Cell) → from_first b (filter p (filter h list)) ≡ filter p (filter h list)
from_first_same b p h all [] = refl
from_first_same b p h all (e ∷ es) = go (h e) refl (from_first_same b p h all es)
  where
    go : (x : Bool) → h e ≡ x → from_first b (filter p (filter h es)) ≡ filter p (filter h es)
        → from_first b (filter p (cond x (e ∷ filter h es) (filter h es))) ≡ filter p (cond x (e ∷ filter h es) (filter h es))
    go true k ih = kept (p e) (all e k)
      where
        kept : (y : Bool) → b e ≡ true → from_first b (cond y (e ∷ filter p (filter h es)) (filter p (filter h es))) ≡ cond y (e ∷ filter p (filter h es)) (filter p (filter h es))
        kept true k = ap (λ c. cond c (e ∷ filter p (filter h es)) (from_first b (filter p (filter h es)))) k
        kept false k = ih
    go false k ih = ih

-- a range of what passes is what passes of the range
pub test_narrows : (p : Cell → Bool) (s : Span) (list : List Cell) → from_first (λ e. is_behind s.start e.key) (filter p (within s list)) ≡ within s (filter p list)
test_narrows p s list =
    from_first_same (λ e. is_behind s.start e.key) p (λ e. holds s e.key) (λ e h. (both-of-and (is_behind s.start e.key) (is_before s.end e.key) h).0) list
    ∙ filter_filter p (λ e. holds s e.key) list
    ∙ filter_agree (λ e. holds s e.key && p e) (λ e. p e && holds s e.key) (λ e. and_swap (holds s e.key) (p e)) list
    ∙ sym (filter_filter (λ e. holds s e.key) p list)

-- a test of what a list has from the first on that lies behind a start
pub from_first_filter : (p b : Cell → Bool) → GoesUp b → (list : List Cell) → Ascends above list → from_first b (filter p list) ≡ filter p (from_first b list)
from_first_filter p b rises list up =
    from_first_is b rises (filter p list) (Ascends-filter above above_exact p list up)
    ∙ filter_filter b p list
    ∙ filter_agree (λ e. p e && b e) (λ e. b e && p e) (λ e. and_swap (p e) (b e)) list
    ∙ sym (filter_filter p b list)
    ∙ ap (filter p) (sym (from_first_is b rises list up))
