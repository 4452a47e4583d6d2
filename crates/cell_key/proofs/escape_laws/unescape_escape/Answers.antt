use Rattle.cell_key.proofs.Spelling.{round_trip}
use Rattle.cell_key.proofs.escape_laws.unescape_escape.Goals as goal

pub returns : goal.returns
returns c = λ b. λ h. round_trip b 0 h
