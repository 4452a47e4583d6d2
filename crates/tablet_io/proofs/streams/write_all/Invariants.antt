use Rattle.std.proofs.Common.{◌≡◌, ◌≤◌, ◌-◌, ◌++◌, Some, length, take, IfSome}
use Rattle.tablet_io.proofs.streams.write_all.Given as goal

abbrev pub invariant-loop-at : goal.invariant-loop-at
invariant-loop-at g l =
    let sink = g.O.Sink in
    record {
      bound : l.at ≤ length l.bytes;
      taken : IfSome (sink.taken l.fn.sink) (λ taken. sink.taken l.sink ≡ Some (taken ++ take l.at l.bytes));
      count : sink.faults l.fn.sink ≤ sink.faults l.sink;
    }

abbrev pub decreases-loop-at : goal.decreases-loop-at
decreases-loop-at g l = length l.bytes - l.at
