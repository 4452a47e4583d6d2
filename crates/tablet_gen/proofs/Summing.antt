-- Totals, entry by entry.
use Rattle.std.proofs.Common.{◌≡◌, ◌+◌, List, [], ◌∷◌, length, Some, None, ap, ◌∙◌, arith}
use Rattle.std.proofs.lemmas.List.Sums.{sum_by-cons}
use Rattle.tablet_model.specs.Cell.{Cell}
use Rattle.tablet_model.specs.Sorted.{first, later}
use Rattle.tablet_gen.specs.Totals.{amount_in, total_of}

-- the first entry, and those behind it
pub one_more : (list : List Cell) (e : Cell) → Some e ≡ first list → length list ≡ length (later list) + 1
one_more [] e h = absurd (let none : Some e ≡ None = h in cc)
one_more (x ∷ list) e h = omega arith

pub total_more : (list : List Cell) (e : Cell) → Some e ≡ first list → total_of list ≡ amount_in e + total_of (later list)
total_more [] e h = absurd (let none : Some e ≡ None = h in cc)
total_more (x ∷ list) e h =
    let same : x ≡ e = cc in
    sum_by-cons amount_in x list ∙ ap (λ y. amount_in y + total_of list) same
