-- Columns are the same where each of their parts is.
use Rattle.std.proofs.Common.{◌≡◌, ◌&&◌, refl}
use Rattle.std.specs.Prelude.{nat_eq}
use Rattle.std.specs.Cmp.Lexicographic.{pointwise, texts_ties}
use Rattle.std.specs.declared.cmp.Ordering.{Ordering}
use Rattle.std.specs.declared.cmp.Ordering.TheVariants.{Less, Equal, Greater}
use Rattle.std.specs.Ordering.{eq_by_cmp, is_eq, ordering_then}
use Rattle.tablet_model.specs.Cell.{Column}
use Rattle.tablet_model.specs.Order.{column_cmp}

-- an order by two is a tie where both are
then_ties : (o p : Ordering) → is_eq (ordering_then o p) ≡ (is_eq o && is_eq p)
then_ties Less p = refl
then_ties Equal p = refl
then_ties Greater p = refl

pub same_parts : (a b : Column) → eq_by_cmp column_cmp a b
    ≡ (((pointwise nat_eq a.row b.row && pointwise nat_eq a.family b.family)
    && pointwise nat_eq a.qualifier b.qualifier) && pointwise nat_eq a.visibility b.visibility)
unfolding column_cmp
same_parts a b =
    simp (then_ties, texts_ties)
