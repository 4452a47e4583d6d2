use Rattle.cell_key.specs.Mutations.{row_change_of}
use Rattle.tablet_replay.proofs.Packs.{log_behind, memory_behind, taken_in}
use Rattle.tablet_replay.proofs.packing.take_mutation.Goals as goal

pub returns : goal.returns
returns c =
    let m = row_change_of c.args.mutation in
    let s = taken_in c.args.core.now c.step.new.self m c.step.result c.in_default.not-NoMemory c.step.ensures in
    record {
      config = s.config;
      log = log_behind c.args.core.now c.step.new.self m s;
      memory = memory_behind c.args.core.now c.step.new.self m s c.requires.memory;
      version_rises_by_one_at_most = s.version_rises_by_one_at_most;
    }
