use Rattle.std.proofs.Common.{◌++◌, ◌+◌, drop, subst, ap, ◌∙◌, sym}
use Rattle.cell_key.specs.Views.{cell_of}
use Rattle.script_text.specs.Answers.{entry_line, entry_lines}
use Rattle.tablet_io.specs.Streams.{IsSent}
use Rattle.tablet_replay.proofs.Sends.{items_next, next_failed}
use Rattle.tablet_replay.proofs.scan.send_entries.Goals as goal

pub returns-in_err-send_entry-clause-bytes : goal.returns-in_err-send_entry-clause-bytes
returns-in_err-send_entry-clause-bytes g c =
    let sink = g.O.Sink in
    let list = c.args.entries.now in
    let e = cell_of c.entry.result in
    let next = items_next entry_line list c.loop-entry.entry-index c.entry-item.result (rw c.as_slice-entry-items.ensures at c.loop-entry-test.true) (rw c.as_slice-entry-items.ensures at c.entry-item.is)
    ∙ ap (λ x. entry_line x ++ entry_lines (drop (c.loop-entry.entry-index + 1) list)) (sym c.entry.ensures.entry) in
    let so_far = rw c.as_slice-entry-items.ensures at c.loop-entry.invariant.sent in
    next_failed (c.args.text.now ++ entry_lines list) c.loop-entry.text (entry_line e) (entry_lines (drop (c.loop-entry.entry-index + 1) list)) c.send_entry.new.text
    (sink.taken c.args.output.now) (sink.taken c.loop-entry.output) (sink.taken c.send_entry.new.output) c.from_residual.result c.from_residual.ensures.0
    (subst (λ l. IsSent (c.args.text.now ++ entry_lines list) (sink.taken c.args.output.now) (sink.taken c.loop-entry.output) (c.loop-entry.text ++ l)) next so_far)
    c.in_err-send_entry.ensures.bytes
