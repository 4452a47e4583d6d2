-- The entries of a source, written to a file in order.
use Rattle.std.proofs.Common.{◌≡◌, false, true, List, [], ◌∷◌, ◌++◌, Some, None, refl, sym, ap, subst}
use Rattle.std.specs.Prelude.{filter}
use Rattle.tablet_model.specs.Cell.{Cell}
use Rattle.tablet_model.specs.Cuts.{Everything, within}
use Rattle.tablet_model.specs.Order.{above}
use Rattle.tablet_model.specs.Sorted.{Ascends, first}
use Rattle.iter_contract.specs.Following.{is_out_of_order}
use Rattle.sorted_file.specs.Lists.{last_of}

-- the next entry of a list in order does not sort before the last one
next_in_order : (list : List Cell) (e : Cell) (es : List Cell) → Ascends above (list ++ e ∷ es) → is_out_of_order (last_of list) e ≡ false
unfolding Ascends
next_in_order [] e es up = refl
next_in_order (b ∷ []) e es up = up.0.0
next_in_order (b ∷ c ∷ cs) e es up = next_in_order (c ∷ cs) e es up.1

-- so the first entry that is left may be put at the end
pub next_fits : (list rest : List Cell) (e : Cell) → Ascends above (list ++ rest) → Some e ≡ first rest → is_out_of_order (last_of list) e ≡ false
next_fits list [] e up h = absurd (let k : Some e ≡ None = h in cc)
next_fits list (x ∷ xs) e up h = next_in_order list e xs (subst (λ y. Ascends above (list ++ y ∷ xs)) (sym (same x e h)) up)
  where
    same : (x e : Cell) → Some e ≡ Some x → e ≡ x
    same x e h = cc

filter-true : (list : List Cell) → filter (λ e. true) list ≡ list
filter-true [] = refl
filter-true (e ∷ es) = ap (λ l. e ∷ l) (filter-true es)

-- all keys are all entries
pub within_all : (list : List Cell) → within (record { start = Everything; end = Everything }) list ≡ list
within_all list = filter-true list
