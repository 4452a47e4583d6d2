use Rattle.std.proofs.Common.{◌≡◌, ◌+◌, ◌++◌, Some, arith, drop, take, length, length-drop, sym, ◌∙◌, ap}
use Rattle.std.proofs.lemmas.List.{take_rest}
use Rattle.cell_key.specs.Escape.{first_spelling, unescape_from, unescape_of}
use Rattle.cell_key.proofs.Runs.{first_run, run_more}
use Rattle.cell_key.proofs.Spelling.{put_all, spelled_within, unescape_more}
use Rattle.cell_key.proofs.unescaping.unescape.Goals as goal

pub loop-at-init : goal.loop-at-init
loop-at-init c = record {
  bound = c.in_ok-at.ensures.within;
  read = first_run c.args.text.now c.append_run.new.bytes c.in_ok-at.at c.in_ok-at.ensures.run
      (c.in_ok-at.ensures.bytes ∙ ap (λ l. l ++ take c.in_ok-at.at c.args.text.now) c.in_ok-bytes.ensures);
}

pub loop-at-preserved : goal.loop-at-preserved
loop-at-preserved c =
    let text = c.args.text.now in
    let e : first_spelling (drop c.loop-at.at c.args.text.now) ≡ Some (c.in-Some.byte, c.in-Some.more) = ap first_spelling (sym (take_rest text c.loop-at.at)) ∙ sym c.in-Some.ensures in
    let w = spelled_within (drop c.loop-at.at text) c.in-Some.byte c.in-Some.more e in
    let at = c.loop-at.at + (1 + c.in-Some.more) in
    record {
      bound = omega (arith, w, c.in_ok-at-2.ensures.within, ap length (take_rest text at), length-drop at text, length-drop c.loop-at.at text);
      read = run_more text _ c.push.new.self at c.in_ok-at-2.field-0 c.append_run-in-loop-at.new.bytes (unescape_of text)
          (take_rest text at) c.in_ok-at-2.ensures.run c.in_ok-at-2.ensures.bytes
          (ap (λ bytes. put_all bytes (unescape_from (drop at text) at 0)) c.in_ok-push.ensures
          ∙ unescape_more text c.loop-at.bytes c.loop-at.at c.in-Some.byte c.in-Some.more (unescape_of text) e c.loop-at.invariant.read);
    }
