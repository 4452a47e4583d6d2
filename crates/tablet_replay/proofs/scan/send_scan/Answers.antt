use Rattle.std.proofs.Common.{◌++◌, subst}
use Rattle.script_text.specs.Answers.{scan_text}
use Rattle.tablet_model.specs.Cuts.{within}
use Rattle.cell_key.specs.Ranges.{span_of}
use Rattle.iter_stack.specs.Usages.{usage_cells}
use Rattle.iter_stack.specs.declared.usage.Usage.TheVariants.{Scan}
use Rattle.tablet_io.proofs.Pieces.{none_taken}
use Rattle.tablet_replay.specs.Replies.{Sends}
use Rattle.tablet_replay.proofs.Sends.{failed}
use Rattle.tablet_replay.proofs.scan.send_scan.Goals as goal

pub returns-clause-bytes : goal.returns-clause-bytes
returns-clause-bytes g c =
    let sink = g.O.Sink in
    subst (λ list. Sends (c.args.text.now ++ scan_text c.args.mutations (within (span_of c.args.range.now) list)) (sink.taken c.args.output.now) (sink.taken c.send_found.new.output) c.send_found.new.text c.send_found.result)
    c.in_ok-stack.ensures.same_cells c.send_found.ensures.bytes

pub returns-in_err-stack-clause-bytes : goal.returns-in_err-stack-clause-bytes
returns-in_err-stack-clause-bytes g c =
    let text = c.args.text.now ++ scan_text c.args.mutations (within (span_of c.args.range.now) (usage_cells c.args.config.now Scan (g.S.SortedSource.cells c.args.leaf))) in
    let a = g.O.Sink.taken c.args.output.now in
    failed text c.args.text.now a a c.from_residual.result c.from_residual.ensures.0 (none_taken text a)
