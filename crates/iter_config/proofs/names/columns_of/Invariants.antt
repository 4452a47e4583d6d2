use Rattle.std.proofs.Common.{◌≡◌, drop}
use Rattle.std.specs.List.{All}
use Rattle.toml.specs.View.{items_view}
use Rattle.iter_config.specs.Limits.{IsShortColumn}
use Rattle.iter_config.specs.Names.{columns_of}
use Rattle.iter_config.proofs.Views.{with_all}
use Rattle.iter_config.proofs.names.columns_of.Given as goal

abbrev pub invariant-loop-i : goal.invariant-loop-i
invariant-loop-i l = record {
  read : with_all l.columns (columns_of (items_view (drop l.i l.items.items))) ≡ columns_of (items_view l.items.items);
  short : All IsShortColumn l.columns;
}
