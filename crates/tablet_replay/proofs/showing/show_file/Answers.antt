use Rattle.std.proofs.Common.{◌++◌, [], length, ap, ◌∙◌, subst, sym}
use Rattle.std.specs.Arc.{arc_value}
use Rattle.script_text.specs.Answers.{count_line, entry_lines}
use Rattle.sorted_file.specs.Contents.{FileContents}
use Rattle.tablet_io.specs.Streams.{IsFrontTaken, IsSent}
use Rattle.tablet_io.proofs.Pieces.{sent_more}
use Rattle.tablet_replay.proofs.Sends.{cut_off, failed, front_of_more, reply_ended, reply_failed}
use Rattle.tablet_replay.proofs.showing.show_file.Goals as goal

pub returns-in_err-send_cells-clause-text : goal.returns-in_err-send_cells-clause-text
returns-in_err-send_cells-clause-text g c =
    let a = g.O.Sink.taken c.args.output.now in
    let b = g.O.Sink.taken c.send_cells.new.output in
    let list = (arc_value c.args.file).cells in
    let count = count_line (length list) in
    let r = c.from_residual-in_err-send_cells in
    reply_failed (entry_lines list ++ count) [] a b r.result r.ensures.0
    (failed (entry_lines list ++ count) [] a b r.result r.ensures.0
    (front_of_more (entry_lines list) count a b
    (subst (λ l. IsFrontTaken l a b) (ap (λ t. t ++ entry_lines list) c.new-text.ensures) (rw c.in_ok-cursor.ensures.cells at c.in_err-send_cells.ensures.bytes))))

pub returns-in_err-append_count-clause-text : goal.returns-in_err-append_count-clause-text
returns-in_err-append_count-clause-text g c =
    let a = g.O.Sink.taken c.args.output.now in
    let b = g.O.Sink.taken c.send_cells.new.output in
    let list = (arc_value c.args.file).cells in
    let count = count_line (length list) in
    let r = c.from_residual-in_err-append_count in
    reply_failed (entry_lines list ++ count) [] a b r.result r.ensures.0
    (cut_off (entry_lines list ++ count) (c.send_cells.new.text ++ count) [] a b r.result r.ensures.0
    (sent_more (entry_lines list) c.send_cells.new.text count a b
    (subst (λ l. IsSent l a b c.send_cells.new.text) (ap (λ t. t ++ entry_lines list) c.new-text.ensures) (rw c.in_ok-cursor.ensures.cells at c.in_ok-send_cells.ensures.bytes))))

pub returns-clause-text : goal.returns-clause-text
returns-clause-text g c =
    let a = g.O.Sink.taken c.args.output.now in
    let b = g.O.Sink.taken c.send_cells.new.output in
    let list = (arc_value c.args.file).cells in
    let count = count_line (length list) in
    let is = c.in_ok-append_count.ensures ∙ ap (λ n. c.send_cells.new.text ++ count_line n) (c.count.ensures ∙ ap (λ (file : FileContents). length file.cells) c.deref.ensures) in
    reply_ended (entry_lines list ++ count) c.append_count.new.text a b (g.O.Sink.taken c.send_last.new.output) c.send_last.result
    (subst (IsSent (entry_lines list ++ count) a b) (sym is)
    (sent_more (entry_lines list) c.send_cells.new.text count a b
    (subst (λ l. IsSent l a b c.send_cells.new.text) (ap (λ t. t ++ entry_lines list) c.new-text.ensures) (rw c.in_ok-cursor.ensures.cells at c.in_ok-send_cells.ensures.bytes))))
    c.send_last.ensures.text
