-- A seek of a sum seeks each list of it.
use Rattle.std.proofs.Common.{◌≡◌, List, [], ◌∷◌, ◌++◌, map, refl, sym, ◌∙◌, ap, subst}
use Rattle.std.specs.List.{AllByRecursion, flat_map}
use Rattle.tablet_model.specs.Cell.{Cell}
use Rattle.tablet_model.specs.Cuts.{Span, holds, within}
use Rattle.tablet_model.specs.Order.{above}
use Rattle.tablet_model.specs.Sorted.{sorted, Ascends}
use Rattle.tablet_model.specs.Sum.{sum_all}
use Rattle.tablet_model.proofs.Cursors.{merge_seek}
use Rattle.tablet_model.proofs.Orders.{above_exact}
use Rattle.tablet_model.proofs.Sums.{Ascends-filter}
use Rattle.iter_contract.specs.Several.{IsSought}

flat_mapped : (f : List Cell → List Cell) (lists : List (List Cell)) → flat_map f lists ≡ flat_map (λ l. l) (map f lists)
flat_mapped f [] = refl
flat_mapped f (l ∷ ls) = ap (λ rest. f l ++ rest) (flat_mapped f ls)

-- what the sum has in a range is the sum of what the lists have in it
sum_within : (s : Span) (lists : List (List Cell)) → sum_all (map (λ l. within s l) lists) ≡ within s (sum_all lists)
unfolding sum_all
sum_within s lists = sym (merge_seek above above_exact (λ e. holds s e.key) (λ l. l) lists ∙ ap (sorted above) (flat_mapped (λ l. within s l) lists))

-- a source after its seek
pub sought_now : {S : Type 0} (rest cells : S → List Cell) (s : Span) (before after : S) → cells after ≡ cells before → rest after ≡ within s (cells before) → IsSought rest cells s after
sought_now rest cells s before after same left = left ∙ ap (λ l. within s l) (sym same)

sought : {S : Type 0} (rest cells : S → List Cell) (s : Span) (sources : List S) → AllByRecursion (IsSought rest cells s) sources → map rest sources ≡ map (λ l. within s l) (map cells sources)
sought rest cells s [] h = refl
sought rest cells s (x ∷ xs) h = ap (λ l. l ∷ map rest xs) h.0 ∙ ap (λ ls. within s (cells x) ∷ ls) (sought rest cells s xs h.1)

-- their sum is what the sum of the lists has in it
pub sought_sum : {S : Type 0} (rest cells : S → List Cell) (s : Span) (sources : List S) → AllByRecursion (IsSought rest cells s) sources → sum_all (map rest sources) ≡ within s (sum_all (map cells sources))
sought_sum rest cells s sources h = ap sum_all (sought rest cells s sources h) ∙ sum_within s (map cells sources)

-- and each is in order
pub sought_in_order : {S : Type 0} (rest cells : S → List Cell) (s : Span) → ((x : S) → Ascends above (cells x)) → (sources : List S) → AllByRecursion (IsSought rest cells s) sources → AllByRecursion (Ascends above) (map rest sources)
sought_in_order rest cells s up [] h = tt
sought_in_order rest cells s up (x ∷ xs) h = (subst (Ascends above) (sym h.0) (Ascends-filter above above_exact (λ e. holds s e.key) (cells x) (up x)), sought_in_order rest cells s up xs h.1)
