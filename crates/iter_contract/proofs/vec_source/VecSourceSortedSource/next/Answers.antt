use Rattle.std.specs.Arc.{arc_value}
use Rattle.iter_contract.proofs.Partition.{step_later}
use Rattle.iter_contract.proofs.vec_source.VecSourceSortedSource.next.Goals as goal

pub returns-clause-rest : goal.returns-clause-rest
returns-clause-rest c = step_later (arc_value c.args.self.now.entries) c.args.self.now.at c.args.self.now.end
