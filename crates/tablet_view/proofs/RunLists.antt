-- The mutations of runs.
use Rattle.std.proofs.Common.{◌≡◌, ℕ, ◌+◌, ◌<◌, ◌≤◌, ◌^◌, List, [], ◌∷◌, ◌++◌, length, map, take, get_or, Some, ⊎_elim, sym, ◌∙◌, ap, subst, arith, append-nil, append_assoc, length-append}
use Rattle.std.proofs.lemmas.Bool.{cases_lt}
use Rattle.std.proofs.lemmas.List.{get_or-map, get_or-take, length-map, take_more}
use Rattle.std.proofs.lemmas.Nat.{pow_below}
use Rattle.std.proofs.lemmas.Option.{get_or_from_slice_get, slice_get_within}
use Rattle.std.specs.Prelude.{slice_get}
use Rattle.std.proofs.lemmas.List.Concat.{flat_map-append, length-flat_map}
use Rattle.tablet_model.specs.Cell.{Cell}
use Rattle.tablet_view.specs.LogParts.{all_in}
use Rattle.tablet_model.specs.Runs.{AreHalving}
use Rattle.tablet_model.proofs.Runs.{few_runs}

-- those of a last run stand at the end
pub all_end : (runs : List (List (List Cell))) (run : List (List Cell)) → all_in (runs ++ run ∷ []) ≡ all_in runs ++ run
all_end runs run = flat_map-append (λ r. r) runs (run ∷ []) ∙ ap (λ l. all_in runs ++ l) (append-nil run)

-- a last run and what stands behind it
pub end_joined : (runs : List (List (List Cell))) (run last : List (List Cell)) → all_in (runs ++ run ∷ []) ++ last ≡ all_in runs ++ (run ++ last)
end_joined runs run last = ap (λ l. l ++ last) (all_end runs run) ∙ append_assoc (all_in runs) run last

-- are not more than the whole
pub end_fits : (runs : List (List (List Cell))) (run last whole : List (List Cell)) → all_in (runs ++ run ∷ []) ++ last ≡ whole → length run + length last ≤ length whole
end_fits runs run last whole h =
    let all = ap length (sym (end_joined runs run last) ∙ h) in
    let outer = length-append (all_in runs) (run ++ last) in
    let inner = length-append run last in
    omega (arith, all, outer, inner)

-- how many runs there are
pub runs_few : (runs : List (List (List Cell))) → AreHalving (λ run. length run) runs → 2 ^ length runs ≤ length (all_in runs) + 1
runs_few runs h = subst (λ n. 2 ^ length runs ≤ n + 1) (sym (length-flat_map (λ r. r) runs)) (few_runs (λ run. length run) runs h)

-- so their number has 32 bits
pub places_few : (n m : ℕ) → 2 ^ n ≤ m + 1 → m < 2 ^ 64 → n ≤ 64
places_few n m h l = ⊎_elim (λ more. absurd (omega (arith, h, l, pow_below 64 n more))) (λ few. few) (cases_lt 64 n)

module _ {X : Type 0} where
  -- one element more
  pub take_step : (xs : List X) (i : ℕ) (x : X) → slice_get xs i ≡ Some x → take (i + 1) xs ≡ take i xs ++ x ∷ []
  take_step xs i x h = take_more xs i x (slice_get_within xs i x h) ∙ ap (λ y. take i xs ++ y ∷ []) (get_or_from_slice_get xs i x x h)

  -- lists that begin alike have the same element at a place
  pub same_at : (xs ys : List X) (n i : ℕ) (x y : X) → i < n → slice_get xs i ≡ Some x → slice_get ys i ≡ Some y → take n xs ≡ take n ys → x ≡ y
  same_at xs ys n i x y l hx hy e =
      sym (get_or_from_slice_get xs i x x hx) ∙ sym (get_or-take n xs i x l) ∙ ap (λ z. get_or z i x) e ∙ get_or-take n ys i x l ∙ get_or_from_slice_get ys i y x hy

  -- a list of one element
  pub only_one : (xs : List X) (x : X) → length xs ≡ 1 → slice_get xs 0 ≡ Some x → xs ≡ x ∷ []
  only_one [] x l h = absurd (omega (arith, l))
  only_one (y ∷ []) x l h = let same : y ≡ x = grind (arith, h) in ap (λ z. z ∷ []) same
  only_one (y ∷ z ∷ zs) x l h = absurd (omega (arith, l))

module _ {X Y : Type 0} (f : X → Y) where
  -- one image more
  image_more : (xs : List X) (i : ℕ) (x : X) → i < length xs → x ≡ get_or xs i x → take (i + 1) (map f xs) ≡ take i (map f xs) ++ f x ∷ []
  image_more xs i x l is =
      take_more (map f xs) i (f x) (omega (arith, l, length-map xs f))
      ∙ ap (λ y. take i (map f xs) ++ y ∷ []) (get_or-map f xs i x (f x) l ∙ ap f (sym is))

  -- images that begin alike
  pub images_more : (xs ys : List X) (i : ℕ) (x y : X) → i < length xs → i < length ys → x ≡ get_or xs i x → y ≡ get_or ys i y → f x ≡ f y
      → take i (map f xs) ≡ take i (map f ys) → take (i + 1) (map f xs) ≡ take (i + 1) (map f ys)
  images_more xs ys i x y lx ly isx isy e h = image_more xs i x lx isx ∙ (λ k. h k ++ e k ∷ []) ∙ sym (image_more ys i y ly isy)

  -- images that are the same have the same at each place
  pub images_same : (xs ys : List X) (i : ℕ) (x y : X) → i < length xs → i < length ys → x ≡ get_or xs i x → y ≡ get_or ys i y → map f xs ≡ map f ys → f x ≡ f y
  images_same xs ys i x y lx ly isx isy e =
      ap f isx ∙ sym (get_or-map f xs i x (f x) lx) ∙ ap (λ l. get_or l i (f x)) e ∙ get_or-map f ys i y (f x) ly ∙ ap f (sym isy)
