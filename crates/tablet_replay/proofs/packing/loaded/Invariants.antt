use Rattle.std.proofs.Common.{◌≡◌, ◌+◌, ◌≤◌, [], length}
use Rattle.script_text.specs.Lines.{lines_of}
use Rattle.tablet_replay.specs.Packing.{IsInMemory, history_behind}
use Rattle.tablet_replay.proofs.packing.loaded.Given as goal

abbrev pub invariant-loop-line : goal.invariant-loop-line
invariant-loop-line l = record {
  config : l.core.view.config ≡ l.fn.config;
  log : history_behind l.fn.config l.core.view.log l.line-iterator ≡ history_behind l.fn.config [] (lines_of l.script);
  memory : IsInMemory l.core.view;
  few : l.core.view.version + length l.line-iterator ≤ length (lines_of l.script);
}
