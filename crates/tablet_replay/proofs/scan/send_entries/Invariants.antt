use Rattle.std.proofs.Common.{◌++◌, ◌≤◌, drop}
use Rattle.script_text.specs.Answers.{entry_lines}
use Rattle.tablet_io.specs.Streams.{IsSent}
use Rattle.tablet_replay.proofs.scan.send_entries.Given as goal

abbrev pub invariant-loop-entry : goal.invariant-loop-entry
invariant-loop-entry g l =
    let sink = g.O.Sink in
    record {
      sent : IsSent (l.fn.text ++ entry_lines l.entry-items) (sink.taken l.fn.output) (sink.taken l.output) (l.text ++ entry_lines (drop l.entry-index l.entry-items));
      count : sink.faults l.fn.output ≤ sink.faults l.output;
    }
