use Rattle.live_tablet.specs.States.{load_in, rules_of_loader}
use Rattle.live_tablet.proofs.Runs.{no_first, one_first}
use Rattle.live_tablet.proofs.running.load_first.Goals as goal

pub returns-then-is_empty-clause-load : goal.returns-then-is_empty-clause-load
returns-then-is_empty-clause-load g c = λ chunk few. no_first (rules_of_loader c.args.loader.now) (load_in c.args.loader.now) chunk c.args.first.now c.if-is_empty.ensures

pub returns-clause-load : goal.returns-clause-load
returns-clause-load g c = λ chunk few.
    one_first c.load_chunk.result (rules_of_loader c.args.loader.now) (load_in c.args.loader.now) (load_in c.load_chunk.new.self) chunk c.args.first.now c.if-is_empty.ensures few c.load_chunk.ensures.load
