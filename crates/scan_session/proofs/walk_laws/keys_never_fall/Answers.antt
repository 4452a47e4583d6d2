use Rattle.scan_session.proofs.Rising.{part_no_key, never_fall, keys_in_one_piece, rows_in_one_piece}
use Rattle.scan_session.proofs.walk_laws.keys_never_fall.Goals as goal

pub returns-clause-ends : goal.returns-clause-ends
returns-clause-ends c = part_no_key

pub returns-clause-never : goal.returns-clause-never
returns-clause-never c = never_fall

pub returns-clause-one_piece : goal.returns-clause-one_piece
returns-clause-one_piece c = keys_in_one_piece

pub returns-clause-one_row : goal.returns-clause-one_row
returns-clause-one_row c = rows_in_one_piece
