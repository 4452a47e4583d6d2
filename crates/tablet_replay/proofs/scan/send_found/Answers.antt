use Rattle.std.proofs.Common.{◌++◌, subst}
use Rattle.script_text.specs.Answers.{scan_text}
use Rattle.tablet_model.specs.Cuts.{within}
use Rattle.cell_key.specs.Ranges.{span_of}
use Rattle.tablet_io.proofs.Pieces.{none_taken}
use Rattle.tablet_replay.specs.Replies.{Sends}
use Rattle.tablet_replay.proofs.Sends.{failed}
use Rattle.tablet_replay.proofs.scan.send_found.Goals as goal

pub returns-clause-bytes : goal.returns-clause-bytes
returns-clause-bytes g c =
    let sink = g.O.Sink in
    subst (λ list. Sends (c.args.text.now ++ scan_text c.args.mutations list) (sink.taken c.args.output.now) (sink.taken c.send_rest.new.output) c.send_rest.new.text c.send_rest.result)
    c.in_ok-seek.ensures.rest c.send_rest.ensures.bytes

pub returns-in_err-seek-clause-bytes : goal.returns-in_err-seek-clause-bytes
returns-in_err-seek-clause-bytes g c =
    let text = c.args.text.now ++ scan_text c.args.mutations (within (span_of c.args.range.now) (g.S.SortedSource.cells c.args.source)) in
    let a = g.O.Sink.taken c.args.output.now in
    failed text c.args.text.now a a c.from_residual.result c.from_residual.ensures.0 (none_taken text a)
