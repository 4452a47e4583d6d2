use Rattle.std.proofs.Common.{◌≡◌, map, take}
use Rattle.iter_contract.specs.VecRest.{vec_cells}
use Rattle.memory_map.specs.MapRuns.{lists_of}
use Rattle.memory_map.proofs.mem_cursor.MemCursor.new.Given as goal

abbrev pub invariant-loop-run : goal.invariant-loop-run
invariant-loop-run l = map vec_cells l.sources.items ≡ lists_of (take l.run-index l.runs)
