use Rattle.std.proofs.Common.{◌≡◌, drop}
use Rattle.std.specs.List.{All}
use Rattle.toml.specs.View.{items_view}
use Rattle.iter_config.specs.Limits.{IsShortName}
use Rattle.iter_config.specs.Names.{names_of}
use Rattle.iter_config.proofs.Views.{with_all}
use Rattle.iter_config.proofs.names.names_of.Given as goal

abbrev pub invariant-loop-i : goal.invariant-loop-i
invariant-loop-i l = record {
  read : with_all l.names (names_of (items_view (drop l.i l.items.items))) ≡ names_of (items_view l.items.items);
  short : All IsShortName l.names;
}
