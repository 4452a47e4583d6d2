use Rattle.std.proofs.Common.{◌++◌, subst, append_assoc}
use Rattle.script_text.specs.SessionAnswers.{rest_line}
use Rattle.tablet_io.specs.Streams.{IsSent}
use Rattle.tablet_io.proofs.Pieces.{sent_more}
use Rattle.tablet_replay.specs.StatusText.{pieces_text}
use Rattle.tablet_replay.proofs.Sends.{cut_off}
use Rattle.tablet_replay.proofs.scan.send_fetched.Goals as goal

pub returns-in_err-append_rest-clause-bytes : goal.returns-in_err-append_rest-clause-bytes
returns-in_err-append_rest-clause-bytes g c =
    let sink = g.O.Sink in
    let text = pieces_text c.args.fetched.now.pieces in
    let rest = rest_line c.args.fetched.now.ended in
    cut_off (c.args.text.now ++ (text ++ rest)) (c.send_pieces.new.text ++ rest) c.append_rest.new.text (sink.taken c.args.output.now) (sink.taken c.send_pieces.new.output)
    c.from_residual-in_err-append_rest.result c.from_residual-in_err-append_rest.ensures.0
    (subst (λ l. IsSent l (sink.taken c.args.output.now) (sink.taken c.send_pieces.new.output) (c.send_pieces.new.text ++ rest)) (append_assoc c.args.text.now text rest)
    (sent_more (c.args.text.now ++ text) c.send_pieces.new.text rest (sink.taken c.args.output.now) (sink.taken c.send_pieces.new.output) (rw c.as_slice.ensures at c.in_ok-send_pieces.ensures.bytes)))
