use Rattle.std.proofs.Common.{◌≡◌, length}
use Rattle.script_text.specs.Words.{words_of}
use Rattle.script_text.specs.Grammar.{updates_of}
use Rattle.script_text.proofs.Updating.{with_all}
use Rattle.script_text.proofs.updates.parse_updates.Given as goal

abbrev pub invariant-loop-word : goal.invariant-loop-word
invariant-loop-word l = with_all l.updates (updates_of (words_of l.rest)) ≡ updates_of (words_of l.text)

abbrev pub decreases-loop-word : goal.decreases-loop-word
decreases-loop-word l = length l.rest
