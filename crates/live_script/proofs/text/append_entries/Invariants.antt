use Rattle.std.proofs.Common.{◌≡◌, ◌++◌, ◌+◌, take}
use Rattle.script_text.specs.Answers.{entry_lines}
use Rattle.live_script.proofs.text.append_entries.Given as goal

abbrev pub invariant-loop-entry : goal.invariant-loop-entry
invariant-loop-entry l = l.text ≡ l.fn.text ++ entry_lines (take l.entry-index l.entries)
