use Rattle.std.proofs.Common.{◌++◌, subst}
use Rattle.tablet_model.specs.Sorted.{later}
use Rattle.cell_key.specs.Views.{cell_of}
use Rattle.script_text.specs.Answers.{entry_line, entry_lines}
use Rattle.tablet_io.specs.Streams.{IsSent}
use Rattle.tablet_replay.proofs.Sends.{cut_off, lines_next, next_failed, next_sent}
use Rattle.tablet_replay.proofs.scan.send_lines.Goals as goal

pub returns-in_err-send_entry-clause-bytes : goal.returns-in_err-send_entry-clause-bytes
returns-in_err-send_entry-clause-bytes g c =
    let sink = g.O.Sink in
    let source = g.S.SortedSource in
    let list = source.rest c.args.source.now in
    let left = source.rest c.loop-entry.source in
    next_failed (c.args.text.now ++ entry_lines list) c.loop-entry.text (entry_line (cell_of c.in-Some.entry)) (entry_lines (later left)) c.send_entry.new.text
    (sink.taken c.args.output.now) (sink.taken c.loop-entry.output) (sink.taken c.send_entry.new.output) c.from_residual.result c.from_residual.ensures.0
    (subst (λ l. IsSent (c.args.text.now ++ entry_lines list) (sink.taken c.args.output.now) (sink.taken c.loop-entry.output) (c.loop-entry.text ++ l)) (lines_next left (cell_of c.in-Some.entry) c.in-Some.ensures) c.loop-entry.invariant.sent)
    c.in_err-send_entry.ensures.bytes

pub returns-in_err-next-clause-bytes : goal.returns-in_err-next-clause-bytes
returns-in_err-next-clause-bytes g c =
    let sink = g.O.Sink in
    let source = g.S.SortedSource in
    let list = source.rest c.args.source.now in
    let left = source.rest c.loop-entry.source in
    cut_off (c.args.text.now ++ entry_lines list) (c.send_entry.new.text ++ entry_lines (later left)) c.send_entry.new.text
    (sink.taken c.args.output.now) (sink.taken c.send_entry.new.output) c.from_residual-in_err-next.result c.from_residual-in_err-next.ensures.0
    (next_sent (c.args.text.now ++ entry_lines list) c.loop-entry.text (entry_line (cell_of c.in-Some.entry)) (entry_lines (later left)) c.send_entry.new.text
    (sink.taken c.args.output.now) (sink.taken c.loop-entry.output) (sink.taken c.send_entry.new.output)
    (subst (λ l. IsSent (c.args.text.now ++ entry_lines list) (sink.taken c.args.output.now) (sink.taken c.loop-entry.output) (c.loop-entry.text ++ l)) (lines_next left (cell_of c.in-Some.entry) c.in-Some.ensures) c.loop-entry.invariant.sent)
    c.in_ok-send_entry.ensures.bytes)
