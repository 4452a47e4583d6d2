use Rattle.std.proofs.Common.{◌++◌}
use Rattle.script_text.specs.Grammar.{line_of}
use Rattle.tablet_replay.specs.Replay.{line_answer}
use Rattle.tablet_replay.specs.TabletParts.{replayed_by}
use Rattle.tablet_replay.proofs.Sends.{last_failed}
use Rattle.tablet_replay.proofs.script.send_answer.Goals as goal

pub returns-in_err-send_full-clause-bytes : goal.returns-in_err-send_full-clause-bytes
returns-in_err-send_full-clause-bytes g c =
    let sink = g.O.Sink in
    last_failed (c.args.text.now ++ line_answer (replayed_by c.args.tablet.now) (line_of c.args.line.now)) c.answer_line.new.text c.send_full.new.text
    (sink.taken c.args.output.now) (sink.taken c.answer_line.new.output) (sink.taken c.send_full.new.sink) c.from_residual-in_err-send_full.result
    c.from_residual-in_err-send_full.ensures.0 c.in_ok-answer_line.ensures.bytes c.in_err-send_full.ensures.err
