use Rattle.std.proofs.Common.{◌≡◌, ◌++◌, drop, map}
use Rattle.tablet_steps.specs.ModelSteps.{model_answer_of}
use Rattle.live_script.specs.Texts.{lines_text}
use Rattle.live_script.proofs.text.append_lines.Given as goal

abbrev pub invariant-loop-kind : goal.invariant-loop-kind
invariant-loop-kind l =
    l.text ++ lines_text (drop l.kind-index l.kinds) (map model_answer_of l.answers) ≡ l.fn.text ++ lines_text l.kinds (map model_answer_of l.fn.answers)
