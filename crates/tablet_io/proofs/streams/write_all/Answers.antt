use Rattle.std.proofs.Common.{arith, length-drop}
use Rattle.std.proofs.lemmas.List.{take_rest}
use Rattle.tablet_io.proofs.Streaming.{write_more}
use Rattle.tablet_io.proofs.streams.write_all.Goals as goal

pub loop-at-preserved : goal.loop-at-preserved
loop-at-preserved g c =
    let w = rw (take_rest c.args.bytes.now c.loop-at.at) at c.in-Took.ensures.bytes in
    record {
      bound = omega (arith, w.1, length-drop c.loop-at.at c.args.bytes.now);
      taken = write_more (g.O.Sink.taken c.args.sink.now) (g.O.Sink.taken c.loop-at.sink) (g.O.Sink.taken c.write.new.self) c.loop-at.at c.in-Took.n c.args.bytes.now c.loop-at.invariant.taken w;
      count = omega (arith, c.in-Took.ensures.cause);
    }
