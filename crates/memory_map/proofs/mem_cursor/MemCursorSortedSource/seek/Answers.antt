use Rattle.std.proofs.Common.{arith}
use Rattle.memory_map.proofs.Steady.{all_true}
use Rattle.memory_map.proofs.mem_cursor.MemCursorSortedSource.seek.Goals as goal

pub returns-in_err-seek_all-clause-works : goal.returns-in_err-seek_all-clause-works
returns-in_err-seek_all-clause-works c _ =
    let works = c.in_err-seek_all.ensures.works (all_true c.deref_mut.result.now) in
    grind (arith, works, c.in_err-seek_all.is)
