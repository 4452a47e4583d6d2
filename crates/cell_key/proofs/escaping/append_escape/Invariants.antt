use Rattle.std.proofs.Common.{◌≡◌, ◌++◌, length}
use Rattle.cell_key.specs.Escape.{escape_of}
use Rattle.cell_key.proofs.escaping.append_escape.Given as goal

abbrev pub invariant-loop-byte : goal.invariant-loop-byte
invariant-loop-byte l = l.text ++ escape_of l.rest ≡ l.fn.text ++ escape_of l.bytes

abbrev pub decreases-loop-byte : goal.decreases-loop-byte
decreases-loop-byte l = length l.rest
