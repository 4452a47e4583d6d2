-- Sixteen places, four by four, are the whole of a configuration.
use Rattle.std.proofs.Common.{◌≡◌, ◌≤◌, ℕ, zero, suc, Bool, List, [], ◌∷◌, Option, Some, None, length, drop, slice_get, refl, sym, ap, ◌∙◌, subst}
use Rattle.std.specs.Prelude.{⊤}
use Rattle.std.proofs.lemmas.List.{drop_all}
use Rattle.tablet_model.specs.Cell.{Cell}
use Rattle.iter_config.specs.declared.iter_spec.IterSpec.{IterSpec}
use Rattle.iter_stack.specs.Places.{made_at, steady_at, TakesAt, made_by, steady_by, TakesBy, four_made, steady_by_four, FourTake}
use Rattle.iter_stack.specs.declared.usage.Usage.{Usage}

-- what all iterators make, one after another
unfoldable pub all_made : Usage → List IterSpec → List Cell → List Cell
all_made usage [] list = list
all_made usage (s ∷ ss) list = all_made usage ss (made_by usage s list)

-- whether they are steady over a source
unfoldable pub steady_by_all : Usage → List IterSpec → Bool → Bool
steady_by_all usage [] source = source
steady_by_all usage (s ∷ ss) source = steady_by_all usage ss (steady_by usage s source)

-- each takes what the one before it makes
unfoldable pub AllTake : Usage → List IterSpec → List Cell → Type 0
AllTake usage [] list = ⊤
AllTake usage (s ∷ ss) list = TakesBy usage s list × AllTake usage ss (made_by usage s list)

-- a fold over iterators, place by place
module _ {X : Type 0} (at : Option IterSpec → X → X) (all : List IterSpec → X → X) (none : (x : X) → at None x ≡ x) (nil : (x : X) → all [] x ≡ x) (cons : (s : IterSpec) (ss : List IterSpec) (x : X) → all (s ∷ ss) x ≡ all ss (at (Some s) x)) where
  -- one place
  one : (i : ℕ) (specs : List IterSpec) (x : X) → all (drop i specs) x ≡ all (drop (suc i) specs) (at (slice_get specs i) x)
  one zero [] x = ap (all []) (sym (none x))
  one zero (s ∷ ss) x = cons s ss x
  one (suc i) [] x = ap (all []) (sym (none x))
  one (suc i) (s ∷ ss) x = one i ss x

  -- four places
  four : (i : ℕ) (specs : List IterSpec) (x : X) → all (drop i specs) x ≡ all (drop (suc (suc (suc (suc i)))) specs) (at (slice_get specs (suc (suc (suc i)))) (at (slice_get specs (suc (suc i))) (at (slice_get specs (suc i)) (at (slice_get specs i) x))))
  four i specs x = one i specs x ∙ one (suc i) specs _ ∙ one (suc (suc i)) specs _ ∙ one (suc (suc (suc i))) specs _

  past : (specs : List IterSpec) (x : X) → length specs ≤ 16 → all (drop 16 specs) x ≡ x
  past specs x few = ap (λ l. all l x) (drop_all 16 specs few) ∙ nil x

  -- all places
  pub sixteen : (specs : List IterSpec) → length specs ≤ 16 → (x : X) → {x1 x2 x3 x4 : X}
      → x1 ≡ at (slice_get specs 3) (at (slice_get specs 2) (at (slice_get specs 1) (at (slice_get specs 0) x)))
      → x2 ≡ at (slice_get specs 7) (at (slice_get specs 6) (at (slice_get specs 5) (at (slice_get specs 4) x1)))
      → x3 ≡ at (slice_get specs 11) (at (slice_get specs 10) (at (slice_get specs 9) (at (slice_get specs 8) x2)))
      → x4 ≡ at (slice_get specs 15) (at (slice_get specs 14) (at (slice_get specs 13) (at (slice_get specs 12) x3)))
      → x4 ≡ all specs x
  sixteen specs few x {x1} {x2} {x3} {x4} e1 e2 e3 e4 =
      sym (past specs x4 few)
      ∙ ap (all (drop 16 specs)) e4 ∙ sym (four 12 specs x3)
      ∙ ap (all (drop 12 specs)) e3 ∙ sym (four 8 specs x2)
      ∙ ap (all (drop 8 specs)) e2 ∙ sym (four 4 specs x1)
      ∙ ap (all (drop 4 specs)) e1 ∙ sym (four 0 specs x)

pub sixteen_made : (usage : Usage) (specs : List IterSpec) → length specs ≤ 16 → (list : List Cell) → {l1 l2 l3 l4 : List Cell}
    → l1 ≡ four_made usage specs 0 list → l2 ≡ four_made usage specs 4 l1 → l3 ≡ four_made usage specs 8 l2 → l4 ≡ four_made usage specs 12 l3
    → l4 ≡ all_made usage specs list
unfolding all_made
sixteen_made usage = sixteen (made_at usage) (all_made usage) (λ x. refl) (λ x. refl) (λ s ss x. refl)

pub sixteen_steady : (usage : Usage) (specs : List IterSpec) → length specs ≤ 16 → (b : Bool) → {b1 b2 b3 b4 : Bool}
    → b1 ≡ steady_by_four usage specs 0 b → b2 ≡ steady_by_four usage specs 4 b1 → b3 ≡ steady_by_four usage specs 8 b2 → b4 ≡ steady_by_four usage specs 12 b3
    → b4 ≡ steady_by_all usage specs b
unfolding steady_by_all
sixteen_steady usage = sixteen (steady_at usage) (steady_by_all usage) (λ x. refl) (λ x. refl) (λ s ss x. refl)

-- what the iterators at a place and behind it make, and take
abbrev four_from : Usage → List IterSpec → ℕ → List Cell → List Cell
four_from usage specs i list =
    made_at usage (slice_get specs (suc (suc (suc i)))) (made_at usage (slice_get specs (suc (suc i))) (made_at usage (slice_get specs (suc i)) (made_at usage (slice_get specs i) list)))

abbrev FourFrom : Usage → List IterSpec → ℕ → List Cell → Type 0
FourFrom usage specs i list =
    let one = made_at usage (slice_get specs i) list in
    let two = made_at usage (slice_get specs (suc i)) one in
    let three = made_at usage (slice_get specs (suc (suc i))) two in
    TakesAt usage (slice_get specs i) list × TakesAt usage (slice_get specs (suc i)) one
    × TakesAt usage (slice_get specs (suc (suc i))) two × TakesAt usage (slice_get specs (suc (suc (suc i)))) three

-- what the iterator at a place takes
takes_one : (usage : Usage) (i : ℕ) (specs : List IterSpec) (list : List Cell) → AllTake usage (drop i specs) list
    → TakesAt usage (slice_get specs i) list × AllTake usage (drop (suc i) specs) (made_at usage (slice_get specs i) list)
unfolding AllTake
takes_one usage zero [] list t = (tt, tt)
takes_one usage zero (s ∷ ss) list t = t
takes_one usage (suc i) [] list t = (tt, tt)
takes_one usage (suc i) (s ∷ ss) list t = takes_one usage i ss list t

-- what the four at a place and behind it take
take_four : (usage : Usage) (i : ℕ) (specs : List IterSpec) (list : List Cell) → AllTake usage (drop i specs) list → FourFrom usage specs i list
take_four usage i specs list t =
    let a = takes_one usage i specs list t in
    let b = takes_one usage (suc i) specs _ a.1 in
    let c = takes_one usage (suc (suc i)) specs _ b.1 in
    (a.0, b.0, c.0, (takes_one usage (suc (suc (suc i))) specs _ c.1).0)

-- and what stands behind these
behind_four : (usage : Usage) (i : ℕ) (specs : List IterSpec) (list made : List Cell) → AllTake usage (drop i specs) list → made ≡ four_from usage specs i list
    → AllTake usage (drop (suc (suc (suc (suc i)))) specs) made
behind_four usage i specs list made t e =
    let a = takes_one usage i specs list t in
    let b = takes_one usage (suc i) specs _ a.1 in
    let c = takes_one usage (suc (suc i)) specs _ b.1 in
    subst (AllTake usage (drop (suc (suc (suc (suc i)))) specs)) (sym e) (takes_one usage (suc (suc (suc i))) specs _ c.1).1

-- what each four of sixteen take
module _ (usage : Usage) (specs : List IterSpec) (list l0 : List Cell) (taken : AllTake usage specs list) (e0 : l0 ≡ list) where
  start : AllTake usage (drop 0 specs) l0
  start = subst (AllTake usage specs) (sym e0) taken

  pub first_take : FourTake usage specs 0 l0
  first_take = take_four usage 0 specs l0 start

  pub second_take : (l1 : List Cell) → l1 ≡ four_made usage specs 0 l0 → FourTake usage specs 4 l1
  second_take l1 e1 = take_four usage 4 specs l1 (behind_four usage 0 specs l0 l1 start e1)

  pub third_take : (l1 l2 : List Cell) → l1 ≡ four_made usage specs 0 l0 → l2 ≡ four_made usage specs 4 l1 → FourTake usage specs 8 l2
  third_take l1 l2 e1 e2 = take_four usage 8 specs l2 (behind_four usage 4 specs l1 l2 (behind_four usage 0 specs l0 l1 start e1) e2)

  pub fourth_take : (l1 l2 l3 : List Cell) → l1 ≡ four_made usage specs 0 l0 → l2 ≡ four_made usage specs 4 l1 → l3 ≡ four_made usage specs 8 l2 → FourTake usage specs 12 l3
  fourth_take l1 l2 l3 e1 e2 e3 = take_four usage 12 specs l3 (behind_four usage 8 specs l2 l3 (behind_four usage 4 specs l1 l2 (behind_four usage 0 specs l0 l1 start e1) e2) e3)
