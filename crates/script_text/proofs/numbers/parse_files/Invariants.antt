use Rattle.std.proofs.Common.{◌≡◌, [], length}
use Rattle.cell_key.specs.FileNumbers.{with_numbers}
use Rattle.script_text.specs.Grammar.{files_onto}
use Rattle.script_text.specs.Words.{words_of}
use Rattle.script_text.proofs.numbers.parse_files.Given as goal

abbrev pub invariant-loop-word : goal.invariant-loop-word
invariant-loop-word l = files_onto (with_numbers l.files []) (words_of l.rest) ≡ files_onto [] (words_of l.text)

abbrev pub decreases-loop-word : goal.decreases-loop-word
decreases-loop-word l = length l.rest
