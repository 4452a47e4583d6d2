use Rattle.std.proofs.Common.{rules, map, ap, subst, ◌∙◌}
use Rattle.std.specs.Arc.{arc_value}
use Rattle.cell_key.specs.Mutations.{row_change_of}
use Rattle.script_text.specs.Lines.{lines_of}
use Rattle.tablet_io.specs.Streams.{IsFrontTaken, IsTaken}
use Rattle.live_script.specs.Texts.{IsLiveText}
use Rattle.live_script.proofs.Runs.{live_text, one_front}
use Rattle.live_script.proofs.reply.run_live.Goals as goal

pub returns-in_err-write_all-clause-text : goal.returns-in_err-write_all-clause-text
returns-in_err-write_all-clause-text g c =
    one_front c.from_residual-in_err-write_all.result (IsLiveText c.args.config (lines_of c.args.script.now) c.args.shape) _ _ c.in_ok-text.text (search rules)
    (live_text c.args.config (arc_value c.in_ok-config.config) (lines_of c.args.script.now) c.args.shape c.in_ok-run.run' c.as_slice-mutations.result.now c.as_slice.result.now c.in_ok-text.text
    c.in_ok-config.ensures.ok (ap (map row_change_of) c.as_slice-mutations.ensures ∙ c.in_ok-script.ensures.mutations) (c.as_slice.ensures ∙ c.in_ok-script.ensures.kinds)
    c.in_ok-run.ensures.answers c.in_ok-run.ensures.walks c.in_ok-run.ensures.each c.in_ok-run.ensures.status c.in_ok-text.ensures)
    (subst (λ bytes. IsFrontTaken bytes (g.O.Sink.taken c.args.output.now) (g.O.Sink.taken c.write_all.new.sink)) c.bytes.ensures c.in_err-write_all.ensures.err)

pub returns-clause-text : goal.returns-clause-text
returns-clause-text g c = (
  c.in_ok-text.text,
  live_text c.args.config (arc_value c.in_ok-config.config) (lines_of c.args.script.now) c.args.shape c.in_ok-run.run' c.as_slice-mutations.result.now c.as_slice.result.now c.in_ok-text.text
      c.in_ok-config.ensures.ok (ap (map row_change_of) c.as_slice-mutations.ensures ∙ c.in_ok-script.ensures.mutations) (c.as_slice.ensures ∙ c.in_ok-script.ensures.kinds)
      c.in_ok-run.ensures.answers c.in_ok-run.ensures.walks c.in_ok-run.ensures.each c.in_ok-run.ensures.status c.in_ok-text.ensures,
  subst (λ bytes. IsTaken bytes (g.O.Sink.taken c.args.output.now) (g.O.Sink.taken c.write_all.new.sink)) c.bytes.ensures c.in_ok-write_all.ensures.ok,
)
