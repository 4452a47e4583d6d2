use Rattle.std.proofs.Common.{sym, subst}
use Rattle.tablet_model.specs.Reading.{AreUnmarkedRead}
use Rattle.iter_config.specs.Stages.{stages_of}
use Rattle.iter_contract.specs.VecRest.{vec_cells}
use Rattle.compactor.proofs.Stored.{storable_read}
use Rattle.stack_tests.proofs.stacks.makes.Goals as goal

pub stack_has-requires-clause-read : goal.stack_has-requires-clause-read
stack_has-requires-clause-read c =
    let specs = c.args.config.now in
    subst (AreUnmarkedRead (stages_of specs)) (sym c.in_ok-leaf.ensures.same_cells) (storable_read specs (vec_cells c.args.leaf.now) c.requires)
