use Rattle.memory_map.proofs.Joins.{order_read}
use Rattle.memory_map.proofs.mem_cursor.MemCursor.new.Goals as goal

pub new-requires : goal.new-requires
new-requires c =
    let order = order_read c.args.runs.now c.loop-run.run-index c.run-item.result c.requires c.loop-run-test.true c.run-item.is in
    rw c.in_ok-try_clone.ensures order
