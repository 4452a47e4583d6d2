use Rattle.std.proofs.Common.{◌++◌, ◌≤◌, length}
use Rattle.script_text.specs.Answers.{entry_lines}
use Rattle.tablet_io.specs.Streams.{IsSent}
use Rattle.tablet_replay.proofs.scan.send_lines.Given as goal

abbrev pub invariant-loop-entry : goal.invariant-loop-entry
invariant-loop-entry g l =
    let source = g.S.SortedSource in
    let sink = g.O.Sink in
    record {
      valid : source.valid l.source;
      sent : IsSent (l.fn.text ++ entry_lines (source.rest l.fn.source)) (sink.taken l.fn.output) (sink.taken l.output) (l.text ++ entry_lines (source.rest l.source));
      count : sink.faults l.fn.output ≤ sink.faults l.output;
    }

abbrev pub decreases-loop-entry : goal.decreases-loop-entry
decreases-loop-entry g l = length (g.S.SortedSource.rest l.source)
