use Rattle.std.proofs.Common.{◌++◌, ◌+◌, drop, subst, arith}
use Rattle.tablet_io.specs.Streams.{IsSent}
use Rattle.tablet_replay.specs.StatusText.{piece_text, pieces_text}
use Rattle.tablet_replay.proofs.Sends.{items_next, next_failed, next_sent}
use Rattle.tablet_replay.proofs.scan.send_pieces.Goals as goal

pub returns-in_err-send_piece-clause-bytes : goal.returns-in_err-send_piece-clause-bytes
returns-in_err-send_piece-clause-bytes g c =
    let sink = g.O.Sink in
    let list = c.args.pieces.now in
    next_failed (c.args.text.now ++ pieces_text list) c.loop-piece.text (piece_text c.piece-item.result) (pieces_text (drop (c.loop-piece.piece-index + 1) list)) c.send_piece.new.text
    (sink.taken c.args.output.now) (sink.taken c.loop-piece.output) (sink.taken c.send_piece.new.output) c.from_residual.result c.from_residual.ensures.0
    (subst (λ l. IsSent (c.args.text.now ++ pieces_text list) (sink.taken c.args.output.now) (sink.taken c.loop-piece.output) (c.loop-piece.text ++ l))
    (items_next piece_text list c.loop-piece.piece-index c.piece-item.result c.loop-piece-test.true c.piece-item.is) c.loop-piece.invariant.sent)
    c.in_err-send_piece.ensures.bytes

pub loop-piece-preserved : goal.loop-piece-preserved
loop-piece-preserved g c =
    let sink = g.O.Sink in
    let list = c.args.pieces.now in
    record {
      sent = next_sent (c.args.text.now ++ pieces_text list) c.loop-piece.text (piece_text c.piece-item.result) (pieces_text (drop (c.loop-piece.piece-index + 1) list)) c.send_piece.new.text
          (sink.taken c.args.output.now) (sink.taken c.loop-piece.output) (sink.taken c.send_piece.new.output)
          (subst (λ l. IsSent (c.args.text.now ++ pieces_text list) (sink.taken c.args.output.now) (sink.taken c.loop-piece.output) (c.loop-piece.text ++ l))
          (items_next piece_text list c.loop-piece.piece-index c.piece-item.result c.loop-piece-test.true c.piece-item.is) c.loop-piece.invariant.sent)
          c.in_ok-send_piece.ensures.bytes;
      count = omega (arith, c.loop-piece.invariant.count, c.in_ok-send_piece.ensures.cause);
    }
