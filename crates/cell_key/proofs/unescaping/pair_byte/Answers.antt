use Rattle.cell_key.proofs.Spelling.{pair_found}
use Rattle.cell_key.proofs.unescaping.pair_byte.Goals as goal

pub returns-in-Ok : goal.returns-in-Ok
returns-in-Ok c = pair_found c.args.high c.args.low c.decode_to_slice.new.out _ c.in-Ok.ensures.value

pub returns-in-Err : goal.returns-in-Err
returns-in-Err c = pair_found c.args.high c.args.low c.decode_to_slice.new.out _ c.in-Err.ensures.value
