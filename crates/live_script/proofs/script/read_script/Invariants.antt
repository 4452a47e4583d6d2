use Rattle.std.proofs.Common.{◌≡◌, ◌++◌, map}
use Rattle.cell_key.specs.Mutations.{row_change_of}
use Rattle.script_text.specs.Lines.{lines_of}
use Rattle.live_script.specs.Scripts.{kinds_of, mutations_of}
use Rattle.live_script.proofs.script.read_script.Given as goal

abbrev pub invariant-loop-line : goal.invariant-loop-line
invariant-loop-line l = record {
  kinds : l.kinds ++ kinds_of l.line-iterator ≡ kinds_of (lines_of l.script);
  mutations : map row_change_of l.mutations ++ mutations_of l.line-iterator ≡ mutations_of (lines_of l.script);
}
