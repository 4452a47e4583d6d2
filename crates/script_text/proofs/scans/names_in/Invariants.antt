use Rattle.std.proofs.Common.{◌≡◌, length}
use Rattle.std.specs.List.{slice_split}
use Rattle.memchr.specs.Find.{is_byte}
use Rattle.script_text.specs.Code.{comma}
use Rattle.script_text.specs.Scans.{names_of}
use Rattle.script_text.proofs.Updating.{with_all}
use Rattle.script_text.proofs.scans.names_in.Given as goal

abbrev pub invariant-loop-part : goal.invariant-loop-part
invariant-loop-part l = with_all l.names (names_of (slice_split (is_byte comma) l.rest)) ≡ names_of (slice_split (is_byte comma) l.text)

abbrev pub decreases-loop-part : goal.decreases-loop-part
decreases-loop-part l = length l.rest
