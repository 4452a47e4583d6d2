use Rattle.number_values.proofs.ArrayLaws.{values_lawful}
use Rattle.number_values.proofs.laws.values_are_joined_in_any_order.Goals as goal

pub returns : goal.returns
returns c = values_lawful c.args.op c.args.encoding
