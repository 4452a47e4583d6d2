use Rattle.std.proofs.Common.{◌≡◌, ◌++◌, ◌+◌, take}
use Rattle.tablet_replay.specs.StatusText.{pieces_text}
use Rattle.live_script.proofs.text.append_pieces.Given as goal

abbrev pub invariant-loop-piece : goal.invariant-loop-piece
invariant-loop-piece l = l.text ≡ l.fn.text ++ pieces_text (take l.piece-index l.pieces)
