use Rattle.std.proofs.Common.{◌≡◌, ◌++◌, take}
use Rattle.tablet_gen.specs.SummaryParts.{count_lines}
use Rattle.tablet_gen.proofs.summary.append_files.Given as goal

abbrev pub invariant-loop-file : goal.invariant-loop-file
invariant-loop-file l = l.text ≡ l.fn.text ++ count_lines (take l.file-index l.files)
