use Rattle.std.proofs.Common.{◌≡◌, ◌++◌, length, sym, subst, ap, ◌∙◌, append-nil, rules, arith}
use Rattle.script_text.specs.Grammar.{line_of}
use Rattle.script_text.specs.Lines.{lines_of}
use Rattle.tablet_io.specs.Streams.{IsSent}
use Rattle.tablet_io.proofs.Pieces.{unsent}
use Rattle.tablet_replay.specs.Replay.{after_line, line_answer, replayed_none, script_answers}
use Rattle.tablet_replay.specs.TabletParts.{replayed_by}
use Rattle.tablet_replay.proofs.Scripts.{begins_empty, lines_few}
use Rattle.tablet_replay.proofs.Sends.{next_failed, next_sent, reply_ended, reply_failed}
use Rattle.tablet_replay.proofs.script.answer_script.Goals as goal

pub loop-line-init : goal.loop-line-init
loop-line-init g c =
    let begun : replayed_by c.in_ok-tablet.tablet ≡ replayed_none c.args.config = ap replayed_by c.in_ok-tablet.ensures ∙ begins_empty c.args.config in
    let lines : c.into_iter-line-iterator.result ≡ lines_of c.args.script.now = search rules in
    let whole = script_answers (replayed_none c.args.config) (lines_of c.args.script.now) in
    record {
      sent = unsent whole (c.new-text.result ++ script_answers (replayed_by c.in_ok-tablet.tablet) c.into_iter-line-iterator.result) (g.O.Sink.taken c.args.output.now)
          (λ i. c.new-text.ensures i ++ script_answers (begun i) (lines i));
      few = omega (arith, ap (λ t. t.core.view.version) c.in_ok-tablet.ensures, ap length lines);
      count = omega arith;
    }

pub loop-line-preserved : goal.loop-line-preserved
loop-line-preserved g c =
    let sink = g.O.Sink in
    let whole = script_answers (replayed_none c.args.config) (lines_of c.args.script.now) in
    let t = replayed_by c.loop-line.tablet in
    let line = line_of c.in-Some.line.now in
    record {
      sent = subst (λ u. IsSent whole (sink.taken c.args.output.now) (sink.taken c.send_answer.new.output) (c.send_answer.new.text ++ script_answers u c.next.new.self)) (sym c.in_ok-send_answer.ensures.state)
          (next_sent whole c.loop-line.text (line_answer t line) (script_answers (after_line t line) c.next.new.self) c.send_answer.new.text
          (sink.taken c.args.output.now) (sink.taken c.loop-line.output) (sink.taken c.send_answer.new.output)
          (subst (λ lines. IsSent whole (sink.taken c.args.output.now) (sink.taken c.loop-line.output) (c.loop-line.text ++ script_answers t lines)) c.in-Some.ensures.steps c.loop-line.invariant.sent)
          c.in_ok-send_answer.ensures.bytes);
      few = omega (arith, c.loop-line.invariant.few, ap length c.in-Some.ensures.steps, c.in_ok-send_answer.ensures.version_rises_by_one_at_most);
      count = omega (arith, c.loop-line.invariant.count, c.in_ok-send_answer.ensures.cause);
    }

pub send_answer-requires : goal.send_answer-requires
send_answer-requires g c =
    omega (arith, c.loop-line.invariant.few, lines_few c.args.script.now)

pub returns-in_err-send_answer-clause-text : goal.returns-in_err-send_answer-clause-text
returns-in_err-send_answer-clause-text g c =
    let sink = g.O.Sink in
    let whole = script_answers (replayed_none c.args.config) (lines_of c.args.script.now) in
    let t = replayed_by c.loop-line.tablet in
    let line = line_of c.in-Some.line.now in
    let r = c.from_residual-in_err-send_answer in
    reply_failed whole c.send_answer.new.text (sink.taken c.args.output.now) (sink.taken c.send_answer.new.output) r.result r.ensures.0
    (next_failed whole c.loop-line.text (line_answer t line) (script_answers (after_line t line) c.next.new.self) c.send_answer.new.text
    (sink.taken c.args.output.now) (sink.taken c.loop-line.output) (sink.taken c.send_answer.new.output) r.result r.ensures.0
    (subst (λ lines. IsSent whole (sink.taken c.args.output.now) (sink.taken c.loop-line.output) (c.loop-line.text ++ script_answers t lines)) c.in-Some.ensures.steps c.loop-line.invariant.sent)
    c.in_err-send_answer.ensures.bytes)

pub returns-clause-text : goal.returns-clause-text
returns-clause-text g c =
    let sink = g.O.Sink in
    let whole = script_answers (replayed_none c.args.config) (lines_of c.args.script.now) in
    let t = replayed_by c.loop-line.tablet in
    reply_ended whole c.loop-line.text (sink.taken c.args.output.now) (sink.taken c.loop-line.output) (sink.taken c.send_last.new.output) c.send_last.result
    (subst (IsSent whole (sink.taken c.args.output.now) (sink.taken c.loop-line.output)) (ap (λ lines. c.loop-line.text ++ script_answers t lines) c.in-None.ensures.steps.0 ∙ append-nil c.loop-line.text) c.loop-line.invariant.sent)
    c.send_last.ensures.text
