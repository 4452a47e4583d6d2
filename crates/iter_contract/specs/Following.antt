-- Whether entries are in order (this project's own).
use Rattle.std.specs.Prelude.{Bool, false, Option, Some, None}
use Rattle.tablet_model.specs.Cell.{Cell}
use Rattle.tablet_model.specs.Order.{above}

-- whether an entry sorts before the one before it, if there is one
abbrev pub is_out_of_order : Option Cell → Cell → Bool
is_out_of_order None e = false
is_out_of_order (Some before) e = above before e
