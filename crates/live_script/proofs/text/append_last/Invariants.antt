use Rattle.std.proofs.Common.{◌≡◌, ◌++◌, ◌+◌, take}
use Rattle.live_script.specs.Texts.{final_text, numbered_text}
use Rattle.live_script.proofs.text.append_last.Given as goal

abbrev pub invariant-loop-walk : goal.invariant-loop-walk
invariant-loop-walk l = (l.number ≡ l.walk-index + 1) × (l.text ≡ l.fn.text ++ numbered_text final_text 1 (take l.walk-index l.walks))
