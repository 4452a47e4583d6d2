use Rattle.std.proofs.Common.{◌≡◌, ◌≤◌, ◌-◌, length, drop}
use Rattle.cell_key.specs.Escape.{unescape_from, unescape_of}
use Rattle.cell_key.proofs.Spelling.{put_all}
use Rattle.cell_key.proofs.unescaping.unescape.Given as goal

abbrev pub invariant-loop-at : goal.invariant-loop-at
invariant-loop-at l = record {
  bound : l.at ≤ length l.text;
  read : put_all l.bytes (unescape_from (drop l.at l.text) l.at 0) ≡ unescape_of l.text;
}

abbrev pub decreases-loop-at : goal.decreases-loop-at
decreases-loop-at l = length l.text - l.at
