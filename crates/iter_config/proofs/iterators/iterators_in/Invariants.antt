use Rattle.std.proofs.Common.{◌≡◌, ◌+◌, length, drop}
use Rattle.std.specs.List.{All}
use Rattle.toml.specs.View.{items_view}
use Rattle.iter_config.specs.Iterators.{iterators_from}
use Rattle.iter_config.specs.Limits.{AreFields}
use Rattle.iter_config.proofs.Views.{with_iterators}
use Rattle.iter_config.proofs.iterators.iterators_in.Given as goal

abbrev pub invariant-loop-i : goal.invariant-loop-i
invariant-loop-i l = record {
  read : with_iterators l.iterators.items (iterators_from (l.i + 1) (items_view (drop l.i l.items.items))) ≡ iterators_from 1 (items_view l.items.items);
  count : length l.iterators.items ≡ l.i;
  limits : All AreFields l.iterators.items;
}
