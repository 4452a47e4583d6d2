-- Which entries a `SmallValues` keeps. This project's own.
use Rattle.std.specs.Prelude.{ℕ, Bool, ◌||◌, length, nat_le}
use Rattle.tablet_model.specs.Cell.{Cell}
use Rattle.own_iterators.specs.declared.filter.SmallValues.{SmallValues}

-- markers, and values of at most so many bytes
abbrev pub is_small : ℕ → Cell → Bool
is_small most e = e.key.deleted || nat_le (length e.value) most

abbrev pub small_passes : SmallValues → Cell → Bool
small_passes test = is_small test.most
