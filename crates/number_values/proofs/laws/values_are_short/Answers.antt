use Rattle.number_values.proofs.ArrayLaws.{values_short}
use Rattle.number_values.proofs.laws.values_are_short.Goals as goal

pub returns : goal.returns
returns c = values_short c.args.op c.args.encoding
