use Rattle.std.proofs.Common.{◌≡◌, ◌++◌, take}
use Rattle.live_script.specs.Texts.{fetches_text}
use Rattle.live_script.proofs.text.append_fetches.Given as goal

abbrev pub invariant-loop-fetched : goal.invariant-loop-fetched
invariant-loop-fetched l = l.text ≡ l.fn.text ++ fetches_text (take l.fetched-index l.fetches)
