use Rattle.std.proofs.Common.{◌++◌, ◌≤◌, drop}
use Rattle.tablet_io.specs.Streams.{IsSent}
use Rattle.tablet_replay.specs.StatusText.{pieces_text}
use Rattle.tablet_replay.proofs.scan.send_pieces.Given as goal

abbrev pub invariant-loop-piece : goal.invariant-loop-piece
invariant-loop-piece g l =
    let sink = g.O.Sink in
    record {
      sent : IsSent (l.fn.text ++ pieces_text l.pieces) (sink.taken l.fn.output) (sink.taken l.output) (l.text ++ pieces_text (drop l.piece-index l.pieces));
      count : sink.faults l.fn.output ≤ sink.faults l.output;
    }
