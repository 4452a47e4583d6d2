use Rattle.std.proofs.Common.{◌++◌, subst, ◌∙◌}
use Rattle.script_text.specs.Answers.{entry_lines}
use Rattle.compactor.proofs.Written.{within_all}
use Rattle.tablet_replay.specs.Replies.{Sends}
use Rattle.tablet_replay.proofs.showing.send_cells.Goals as goal

pub returns-clause-bytes : goal.returns-clause-bytes
returns-clause-bytes g c =
    subst (λ list. Sends (c.args.text.now ++ entry_lines list) (g.O.Sink.taken c.args.output.now) (g.O.Sink.taken c.send_lines.new.output) c.send_lines.new.text c.send_lines.result)
    (c.in_ok-seek.ensures.rest ∙ within_all (g.S.SortedSource.cells c.args.source)) c.send_lines.ensures.bytes
