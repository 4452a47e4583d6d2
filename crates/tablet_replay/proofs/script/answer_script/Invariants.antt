use Rattle.std.proofs.Common.{◌+◌, ◌≤◌, ◌++◌, length}
use Rattle.script_text.specs.Lines.{lines_of}
use Rattle.tablet_io.specs.Streams.{IsSent}
use Rattle.tablet_replay.specs.Replay.{replayed_none, script_answers}
use Rattle.tablet_replay.specs.TabletParts.{replayed_by}
use Rattle.tablet_replay.proofs.script.answer_script.Given as goal

abbrev pub invariant-loop-line : goal.invariant-loop-line
invariant-loop-line g l =
    let sink = g.O.Sink in
    record {
      sent : IsSent (script_answers (replayed_none l.fn.config) (lines_of l.script)) (sink.taken l.fn.output) (sink.taken l.output)
          (l.text ++ script_answers (replayed_by l.tablet) l.line-iterator);
      few : l.tablet.core.view.version + length l.line-iterator ≤ length (lines_of l.script);
      count : sink.faults l.fn.output ≤ sink.faults l.output;
    }
