use Rattle.std.proofs.Common.{map}
use Rattle.cell_key.specs.Mutations.{row_change_of}
use Rattle.tablet_loader.specs.States.{rules_in}
use Rattle.tablet_loader.proofs.Waiting.{flush_kept, major_kept}
use Rattle.tablet_loader.proofs.loader.Loader.apply_chunk.Goals as goal

pub returns-clause-flush : goal.returns-clause-flush
returns-clause-flush c = flush_kept c.apply_all.result c.apply_all.new.self c.args.self.now (rules_in c.args.self.now) (map row_change_of c.args.mutations.now) c.apply_all.ensures.load c.apply_all.ensures.extends

pub returns-clause-major : goal.returns-clause-major
returns-clause-major c = major_kept c.apply_all.result c.apply_all.new.self c.args.self.now (rules_in c.args.self.now) (map row_change_of c.args.mutations.now) c.apply_all.ensures.load c.apply_all.ensures.extends
