use Rattle.std.proofs.Common.{◌-◌, length, take}
use Rattle.script_text.proofs.Cutting.{IsFront}
use Rattle.script_text.proofs.lines.split_input.Given as goal

abbrev pub invariant-loop-rest : goal.invariant-loop-rest
invariant-loop-rest l = IsFront l.text (take (length l.text - length l.rest) l.text) l.rest

abbrev pub decreases-loop-rest : goal.decreases-loop-rest
decreases-loop-rest l = length l.rest
