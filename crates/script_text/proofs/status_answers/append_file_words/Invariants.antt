use Rattle.std.proofs.Common.{◌≡◌, ◌++◌, take}
use Rattle.script_text.specs.StatusAnswers.{file_words}
use Rattle.script_text.proofs.status_answers.append_file_words.Given as goal

abbrev pub invariant-loop-file : goal.invariant-loop-file
invariant-loop-file l = l.text ≡ l.fn.text ++ file_words (take l.file-index l.files)
