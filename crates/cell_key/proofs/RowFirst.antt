-- Rows that differ decide how two entries compare.
use Rattle.std.proofs.Common.{◌≡◌}
use Rattle.std.specs.declared.cmp.Ordering.TheVariants.{Less, Greater}
use Rattle.tablet_model.specs.Cell.{Cell}
use Rattle.tablet_model.specs.Order.{bytes_cmp, cell_cmp, column_cmp, key_cmp}

pub less_row : (a b : Cell) → bytes_cmp a.key.row b.key.row ≡ Less → cell_cmp a b ≡ Less
unfolding column_cmp key_cmp cell_cmp
less_row a b h = simp (h)

pub greater_row : (a b : Cell) → bytes_cmp a.key.row b.key.row ≡ Greater → cell_cmp a b ≡ Greater
unfolding column_cmp key_cmp cell_cmp
greater_row a b h = simp (h)
