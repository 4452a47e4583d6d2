use Rattle.std.proofs.Common.{◌++◌, subst, sym}
use Rattle.cell_key.specs.Views.{cell_of}
use Rattle.script_text.specs.Answers.{end_line, entry_lines, scan_text}
use Rattle.tablet_io.specs.Streams.{IsFrontTaken, IsSent}
use Rattle.tablet_io.proofs.Pieces.{sent_more}
use Rattle.tablet_replay.proofs.Sends.{cut_off, failed, front_of_more, scan_is, some_found}
use Rattle.tablet_replay.proofs.scan.send_rest.Goals as goal

pub returns-in_err-send_lines-clause-bytes : goal.returns-in_err-send_lines-clause-bytes
returns-in_err-send_lines-clause-bytes g c =
    let sink = g.O.Sink in
    let list = g.S.SortedSource.rest c.args.source.now in
    let n = c.args.mutations in
    let whole = scan_is c.args.text.now c.append_at.new.text n list c.in_ok-append_at.ensures
    (some_found cell_of c.top.result c.is_none.result n list c.top.ensures c.is_none.ensures c.if-is_none.false) in
    failed (c.args.text.now ++ scan_text n list) c.send_lines.new.text (sink.taken c.args.output.now) (sink.taken c.send_lines.new.output) c.from_residual-in_err-send_lines.result
    c.from_residual-in_err-send_lines.ensures.0
    (subst (λ l. IsFrontTaken l (sink.taken c.args.output.now) (sink.taken c.send_lines.new.output)) whole
    (front_of_more (c.append_at.new.text ++ entry_lines list) (end_line n) (sink.taken c.args.output.now) (sink.taken c.send_lines.new.output) c.in_err-send_lines.ensures.bytes))

pub returns-in_err-append_end-2-clause-bytes : goal.returns-in_err-append_end-2-clause-bytes
returns-in_err-append_end-2-clause-bytes g c =
    let sink = g.O.Sink in
    let list = g.S.SortedSource.rest c.args.source.now in
    let n = c.args.mutations in
    let whole = scan_is c.args.text.now c.append_at.new.text n list c.in_ok-append_at.ensures
    (some_found cell_of c.top.result c.is_none.result n list c.top.ensures c.is_none.ensures c.if-is_none.false) in
    cut_off (c.args.text.now ++ scan_text n list) (c.send_lines.new.text ++ end_line n) c.append_end-2.new.text (sink.taken c.args.output.now) (sink.taken c.send_lines.new.output)
    c.from_residual-in_err-append_end-2.result c.from_residual-in_err-append_end-2.ensures.0
    (subst (λ l. IsSent l (sink.taken c.args.output.now) (sink.taken c.send_lines.new.output) (c.send_lines.new.text ++ end_line n)) whole
    (sent_more (c.append_at.new.text ++ entry_lines list) c.send_lines.new.text (end_line n) (sink.taken c.args.output.now) (sink.taken c.send_lines.new.output) c.in_ok-send_lines.ensures.bytes))

pub returns-clause-bytes : goal.returns-clause-bytes
returns-clause-bytes g c =
    let sink = g.O.Sink in
    let list = g.S.SortedSource.rest c.args.source.now in
    let n = c.args.mutations in
    let whole = scan_is c.args.text.now c.append_at.new.text n list c.in_ok-append_at.ensures
    (some_found cell_of c.top.result c.is_none.result n list c.top.ensures c.is_none.ensures c.if-is_none.false) in
    subst (λ l. IsSent (c.args.text.now ++ scan_text n list) (sink.taken c.args.output.now) (sink.taken c.send_lines.new.output) l) (sym c.in_ok-append_end-2.ensures)
    (subst (λ l. IsSent l (sink.taken c.args.output.now) (sink.taken c.send_lines.new.output) (c.send_lines.new.text ++ end_line n)) whole
    (sent_more (c.append_at.new.text ++ entry_lines list) c.send_lines.new.text (end_line n) (sink.taken c.args.output.now) (sink.taken c.send_lines.new.output) c.in_ok-send_lines.ensures.bytes))
