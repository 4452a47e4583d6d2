use Rattle.std.proofs.Common.{sym}
use Rattle.tablet_model.specs.Order.{above}
use Rattle.tablet_model.proofs.Orders.{above_exact}
use Rattle.tablet_model.proofs.Sums.{sorted_same}
use Rattle.memory_map.proofs.runs.put_in_order.Goals as goal

pub returns-then-is_sorted : goal.returns-then-is_sorted
returns-then-is_sorted c = sym (sorted_same above above_exact c.args.entries.now (c.requires c.if-is_sorted.true))
