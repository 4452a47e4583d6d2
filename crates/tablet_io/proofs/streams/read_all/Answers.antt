use Rattle.std.proofs.Common.{◌≡◌, ◌++◌, List, ℕ, take, length, IfSome, sym, ap, subst, arith, length-append, length-take}
use Rattle.tablet_io.proofs.Streaming.{read_more, IsReadSoFar}
use Rattle.tablet_io.proofs.streams.read_all.Goals as goal

pub loop-text-preserved : goal.loop-text-preserved
loop-text-preserved g c =
    let e : c.append.new.self ≡ c.loop-text.text ++ take c.in-Bytes.n c.read.new.buffer = c.in-Ok.ensures in
    record {
      bound = omega (arith, ap length e, length-append c.loop-text.text (take c.in-Bytes.n c.read.new.buffer), length-take c.in-Bytes.n c.read.new.buffer, c.loop-text.invariant.bound, c.len.ensures, c.if-n-max.false);
      read = subst (λ (t : List ℕ). IfSome (g.I.Source.left c.args.source.now) (λ left. IsReadSoFar t left (g.I.Source.left c.read.new.self))) (sym e)
          (read_more (g.I.Source.left c.args.source.now) (g.I.Source.left c.loop-text.source) (g.I.Source.left c.read.new.self) c.in-Bytes.n c.loop-text.text c.read.new.buffer c.loop-text.invariant.read c.in-Bytes.ensures.bytes);
      count = omega (arith, c.in-Bytes.ensures.cause);
    }
